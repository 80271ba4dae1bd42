use Rattle.std.proofs.Common.{◌+◌, ◌/◌, eqb, take, ap, ◌∙◌}
use Rattle.bits.specs.Packing.{value}
use Rattle.bits.proofs.Words.{none_above}
use Rattle.bits.proofs.reading.is_filled.Goals as goal

pub returns : goal.returns
returns c =
    ap (λ n. eqb n 0) c.last_bits.ensures
    ∙ none_above (value 8 (take ((c.args.bits + 7) / 8) c.args.bytes.now)) c.args.bits

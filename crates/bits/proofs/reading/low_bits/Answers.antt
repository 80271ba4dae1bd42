use Rattle.std.proofs.Common.{◌-◌, ap, ◌∙◌}
use lib.Bits.{bit_and}
use Rattle.std.proofs.lemmas.Nat.{one_shl, and_mask}
use Rattle.bits.proofs.reading.low_bits.Goals as goal

pub returns : goal.returns
returns c =
    ap (λ p. bit_and c.args.number (p - 1)) (one_shl c.args.bits 64 c.requires)
    ∙ and_mask c.args.number c.args.bits

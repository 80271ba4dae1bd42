use Rattle.std.proofs.Common.{◌∙◌}
use Rattle.bits.proofs.Words.{are_bytes, eight_bytes}
use Rattle.bits.proofs.reading.whole_word.Goals as goal

pub returns : goal.returns
returns c =
    let bytes = c.args.bytes.now in
    c.from_le_bytes.ensures ∙ eight_bytes bytes c.args.from (are_bytes bytes c.type_inv.bytes) c.requires

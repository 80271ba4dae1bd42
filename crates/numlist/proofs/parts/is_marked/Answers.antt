use Rattle.std.proofs.Common.{◌/◌, ◌^◌, not, eqb, ap, ◌∙◌}
use Rattle.numlist.proofs.Aboves.{marked_high_bits}
use Rattle.numlist.proofs.parts.is_marked.Goals as goal

pub returns : goal.returns
returns c =
    ap (λ b. not (eqb (c.args.number / 2 ^ b) 0)) c.bits.ensures.value ∙ marked_high_bits c.args.width.bits c.args.number

use Rattle.std.proofs.Common.{◌+◌, ◌%◌, ◌^◌, ◌≤◌, [], ◌∷◌, ◌++◌, length, subst}
use Rattle.bits.specs.Packing.{room}
use Rattle.bits.specs.Writing.{Written}
use Rattle.bits.proofs.pen.Pen.push.Goals as goal

pub returns : goal.returns
returns c start xs =
    subst (λ w. room w (length xs + 1) ≤ length start → Written w c.args.self start c.args.out.now xs → Written w c.push_bits.result start c.push_bits.new.out (xs ++ c.args.number % 2 ^ w ∷ []))
    c.bits.ensures.value (c.push_bits.ensures.written start xs)

use Rattle.std.proofs.Common.{arith}
use Rattle.numlist.proofs.Aboves.{are_words}
use Rattle.numlist.proofs.above.Above.new.Goals as goal

pub invariant_of-result : goal.invariant_of-result
invariant_of-result c = (omega arith, omega arith, are_words c.args.numbers.now c.type_inv.numbers)

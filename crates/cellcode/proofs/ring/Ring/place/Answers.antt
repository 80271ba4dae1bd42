use Rattle.std.proofs.Common.{arith}
use Rattle.std.proofs.lemmas.Bool.Decides.{nat_tests}
use Rattle.cellcode.specs.Spiral.{across, down}
use Rattle.cellcode.proofs.ring.Ring.place.Goals as goal

pub returns : goal.returns
unfolding across down
returns c = record { across = grind (arith, nat_tests); down = grind (arith, nat_tests) }

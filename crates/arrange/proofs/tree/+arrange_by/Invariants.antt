-- A side is shorter than the part that it belongs to.
use Rattle.std.proofs.Common.{length}
use Rattle.arrange.proofs.tree.+arrange_by.Given as goal

abbrev pub decreases-arrange_by : goal.decreases-arrange_by
decreases-arrange_by g l = length l.part.now

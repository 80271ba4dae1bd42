use Rattle.std.proofs.Common.{◌<◌, length}
use Rattle.select.proofs.pivot.place_of_rank.Given as goal

abbrev pub invariant-loop-place : goal.invariant-loop-place
invariant-loop-place g l = l.nearest < length l.part

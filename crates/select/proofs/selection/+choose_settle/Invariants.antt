-- A sample is shorter than its slice, and so is what a round leaves.
use Rattle.std.proofs.Common.{◌+◌, ◌*◌, length}
use Rattle.select.proofs.selection.+choose_settle.Given as goal

abbrev pub decreases-choose : goal.decreases-choose
decreases-choose g l = 2 * length l.part.now

abbrev pub decreases-settle : goal.decreases-settle
decreases-settle g l = 2 * length l.part.now + 1

use Rattle.std.proofs.Common.{◌≡◌, ℕ, ◌*◌, ◌<◌, ◌≤◌, get_or, take, sum}
use Rattle.numlist.specs.Cuts.{marks_in, directory_in}
use Rattle.numlist.specs.Parts.{directory}
use Rattle.numlist.proofs.places.Sections.is_directory.Given as goal

-- the marks of the groups so far are counted, and the entries of these groups are right
abbrev pub invariant-loop-group : goal.invariant-loop-group
invariant-loop-group l =
    (l.ones ≡ sum (take (256 * l.group) (marks_in l.self.width.bits l.self.bytes.now l.self.count.numbers)))
    × ((k : ℕ) → k < l.group → get_or (directory_in l.self.width.bits l.self.bytes.now l.self.count.numbers) k 0 ≡ get_or (directory (marks_in l.self.width.bits l.self.bytes.now l.self.count.numbers)) k 0)
    × (l.ones ≤ l.self.count.numbers)

-- The elements passed so far are parted.
use Rattle.std.specs.List.Sorted.{IsPermutation}
use Rattle.select.specs.Divisions.{Parted}
use Rattle.select.proofs.partition.gather.Given as goal

abbrev pub invariant-loop-next : goal.invariant-loop-next
invariant-loop-next g l = record { kept : IsPermutation l.initial.part l.part; parted : Parted (goal.F-post g l.is_front) l.next l.border l.part }

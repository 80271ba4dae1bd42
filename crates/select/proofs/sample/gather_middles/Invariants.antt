use Rattle.std.proofs.Common.{◌≡◌, length}
use Rattle.std.specs.List.Sorted.{IsPermutation}
use Rattle.select.proofs.sample.gather_middles.Given as goal

abbrev pub invariant-loop-place : goal.invariant-loop-place
invariant-loop-place g l = record { kept : IsPermutation l.initial.part l.part; long : length l.part ≡ length l.initial.part }

use Rattle.std.specs.List.Sorted.{IsPermutation}
use Rattle.select.proofs.sample.gather_even.Given as goal

abbrev pub invariant-loop-place : goal.invariant-loop-place
invariant-loop-place g l = IsPermutation l.initial.part l.part

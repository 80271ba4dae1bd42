use Rattle.std.proofs.lemmas.List.Sorted.{IsPermutation-trans}
use Rattle.select.proofs.sample.gather_even.Goals as goal

pub loop-place-preserved : goal.loop-place-preserved
loop-place-preserved g c = IsPermutation-trans _ _ _ c.loop-place.invariant c.swap.ensures.permutation

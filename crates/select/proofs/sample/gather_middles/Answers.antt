use Rattle.std.proofs.Common.{◌∙◌}
use Rattle.std.proofs.lemmas.List.Sorted.{IsPermutation-trans}
use Rattle.select.proofs.sample.gather_middles.Goals as goal

pub loop-place-preserved : goal.loop-place-preserved
loop-place-preserved g c = record {
  kept = IsPermutation-trans _ _ _ c.loop-place.invariant.kept c.swap.ensures.permutation;
  long = c.swap.ensures.len ∙ c.loop-place.invariant.long;
}

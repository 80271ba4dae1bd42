-- The partition between two exchanges halves the elements.
use Rattle.std.proofs.Common.{rules}
use Rattle.std.proofs.lemmas.List.Sorted.{IsPermutation-trans, IsPermutation-put_mid}
use Rattle.select.proofs.Parting.{halved}
use Rattle.select.proofs.partition.halve.Goals as goal

pub returns : goal.returns
returns g c = record {
  kept = IsPermutation-trans _ _ _ c.swap.ensures.permutation (IsPermutation-trans _ _ _ (IsPermutation-put_mid 1 _ _ _ c.gather-middle.ensures.kept) c.swap-2.ensures.permutation);
  halved = halved _ _ _ _ _ _ _ _ _ (λ e front answer. search rules) c.requires c.index-part-place.is c.swap.ensures.after c.gather-middle.ensures.kept c.gather-middle.ensures.parted c.swap-2.ensures.after;
}

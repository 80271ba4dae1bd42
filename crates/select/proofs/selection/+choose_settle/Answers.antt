-- Each round settles what the one before has left, whatever pivot is chosen.
use Rattle.std.proofs.lemmas.List.Sorted.{IsPermutation-trans, IsPermutation-put_mid}
use Rattle.select.proofs.Places.{permutation_front}
use Rattle.select.proofs.Settling.{settled_whole}
use Rattle.select.proofs.selection.+choose_settle.Goals as goal

pub choose-returns-clause-kept : goal.choose-returns-clause-kept
choose-returns-clause-kept g t c = IsPermutation-trans _ _ _ c.draw-sample.ensures.kept (permutation_front _ _ _ c.settle.ensures.kept)

pub settle-returns-clause-kept : goal.settle-returns-clause-kept
settle-returns-clause-kept g t c =
    IsPermutation-trans _ _ _ c.choose-place.ensures.kept (IsPermutation-trans _ _ _ c.narrow-left.ensures.kept (IsPermutation-put_mid _ _ _ _ c.settle.ensures.kept))

pub settle-returns-clause-settled : goal.settle-returns-clause-settled
settle-returns-clause-settled g t c = settled_whole _ c.narrow-left.ensures.narrowed c.settle.ensures.kept c.settle.ensures.settled

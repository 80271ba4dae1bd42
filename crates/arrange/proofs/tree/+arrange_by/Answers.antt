-- A short or flat part is arranged as it is, and any other one by its cut and its sides.
use Rattle.arrange.proofs.Flats.{flat_arranges}
use Rattle.arrange.proofs.Sides.{short_arranges, sides_arranged}
use Rattle.arrange.proofs.tree.+arrange_by.Goals as goal
use Rattle.arrange.proofs.tree.+arrange_by.Goals.{then-part-lt2-via-then-part-lt2, then-part-lt2-via-else-part-lt2+then-is_flat}

pub returns-then-part-lt2 : goal.returns-then-part-lt2
returns-then-part-lt2 g t c = elim c.then-part-lt2.branch [
  | then-part-lt2-via-then-part-lt2 w ↦ short_arranges _ _ _ w.if-part-lt2.true
  | then-part-lt2-via-else-part-lt2+then-is_flat w ↦ flat_arranges _ _ _ g.met.E.Element.total (λ d. w.is_flat.ensures d w.if-is_flat.true)
]

pub returns : goal.returns
returns g t c =
    sides_arranged _ _ _ _ _ _ _ _ c.if-part-lt2.false c.cut-middle.ensures.place c.cut-middle.ensures.cut c.other-sides.ensures c.arrange_by.ensures c.arrange_by-2.ensures

-- Hits that are arranged are on the same grid. Assumes nothing.
use Rattle.std.proofs.Common.{◌≡◌, ℕ, ◌<◌, true, get_or, sym, ap, ◌∙◌, arith, get_or-take}
use Rattle.std.specs.List.{AllByRecursion}
use Rattle.std.proofs.ByRecursion.{All-get_or, All-from_get_or}
use Rattle.grid.specs.Cells.{on, origin}
use Rattle.select.specs.CellOrders.{before}
use Rattle.select.specs.declared.element.Axis.TheVariants.{X}
use Rattle.arrange.specs.Trees.{Arranges}
use Rattle.arrange.proofs.Counted.{same-all}
use Rattle.sheet.specs.Memory.{memory, hits}
use Rattle.sheet.specs.declared.sheet.Lent.{Lent}
use Rattle.sheet.specs.declared.sheet.Sheet.{Sheet}
use Rattle.sheet.proofs.Calls.{held_long}

-- the hits of a sheet, arranged, lie on its grid as before
module _ (s : Sheet) (after : Lent) (tree : Arranges before X (hits s.lent) (hits after)) where
  all-on : AllByRecursion (λ c. on s.grid.side c ≡ true) (hits after)
  all-on =
      same-all (on s.grid.side) (hits s.lent) (hits after) tree.kept
      (All-from_get_or _ (hits s.lent) origin (λ k h.
      ap (on s.grid.side) (get_or-take s.lent.held (memory s.lent) k origin (omega (arith, held_long s.lent))) ∙ s.placed k (omega (arith, held_long s.lent))))

  pub arranged_placed : (k : ℕ) → k < after.held → on s.grid.side (get_or (memory after) k origin) ≡ true
  arranged_placed k h =
      ap (on s.grid.side) (sym (get_or-take after.held (memory after) k origin h))
      ∙ All-get_or _ (hits after) k origin (omega (arith, held_long after)) all-on

-- What every sheet holds: few hits, all on its grid. Assumes nothing.
use Rattle.std.proofs.Common.{◌≡◌, ◌≤◌, true, List, length, sym, ap, ◌∙◌, subst, arith, get_or-take}
use Rattle.std.proofs.lemmas.Bool.{and_from, le-leb}
use Rattle.grid.specs.Cells.{on, origin}
use Rattle.grid.specs.Sides.{allowed}
use Rattle.grid.specs.declared.cell.Cell.{Cell}
use Rattle.grid.specs.declared.grid.Grid.{Grid}
use Rattle.sheet.specs.Memory.{memory, hits}
use Rattle.sheet.specs.declared.sheet.Sheet.{Sheet}
use Rattle.sheet.proofs.Calls.{held_long}
use Rattle.spot.proofs.CodeLists.{AllOn}

pub held_few : (s : Sheet) → length (hits s.lent) ≤ 1048576
held_few s = omega (arith, held_long s.lent, s.most)

pub held_on : (s : Sheet) → AllOn s.grid.side (hits s.lent)
held_on s k h =
    ap (on s.grid.side) (get_or-take s.lent.held (memory s.lent) k origin (omega (arith, held_long s.lent)))
    ∙ s.placed k (omega (arith, held_long s.lent))

pub placed_on : (s : Sheet) (grid : Grid) (tree : List Cell) → tree ≡ hits s.lent → grid ≡ s.grid → AllOn grid.side tree
placed_on s grid tree is on = subst (λ l. AllOn grid.side l) (sym is) (subst (λ g. AllOn g.side (hits s.lent)) (sym on) (held_on s))

pub side_fine : (grid : Grid) → allowed grid.side ≡ true
side_fine grid = and_from _ _ (le-leb 1 grid.side grid.low) (le-leb grid.side 1048576 grid.high)

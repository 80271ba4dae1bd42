-- Cells: that two are level is that they are the same cell, so counts of level cells are counts of cells. Assumes nothing.
use Rattle.std.proofs.Common.{◌≡◌, List, count_by, sym, ◌∙◌, arith}
use Rattle.std.proofs.lemmas.Bool.Decides.{nat_tests}
use Rattle.grid.specs.Cells.{same, count}
use Rattle.grid.specs.declared.cell.Cell.{Cell}
use Rattle.select.specs.CellOrders.{before}
use Rattle.select.specs.Selections.{SameElements}
use Rattle.select.specs.Keys.{cells_total}
use Rattle.select.specs.declared.element.Axis.{Axis}
use Rattle.arrange.specs.Trees.{Arranged, EquallyOften, level}
use Rattle.arrange.proofs.Totals.{same_from_often}
use Rattle.arrange.proofs.Uniques.{one_arrangement}

pub level-same : (c d : Cell) → level before c d ≡ same c d
level-same c d = grind (arith, nat_tests)

pub count-level : (c : Cell) (xs : List Cell) → count_by (level before c) xs ≡ count c xs
count-level c xs = λ i. count_by (λ d. level-same c d i) xs

-- lists that have every cell equally often
pub often_cells : (xs ys : List Cell) → ((c : Cell) → count c xs ≡ count c ys) → EquallyOften before xs ys
often_cells xs ys often c = count-level c xs ∙ often c ∙ sym (count-level c ys)

pub cells_often : (xs ys : List Cell) → EquallyOften before xs ys → (c : Cell) → count c xs ≡ count c ys
cells_often xs ys often c = sym (count-level c xs) ∙ often c ∙ count-level c ys

pub same_cells : (xs ys : List Cell) → ((c : Cell) → count c xs ≡ count c ys) → SameElements xs ys
same_cells xs ys often = same_from_often before cells_total xs ys (often_cells xs ys often)

-- two arranged lists that have every cell equally often are the same
pub one_tree_of_cells : (axis : Axis) (xs ys : List Cell) → ((c : Cell) → count c xs ≡ count c ys) → Arranged before axis xs → Arranged before axis ys → xs ≡ ys
one_tree_of_cells axis xs ys often = one_arrangement before cells_total axis xs ys (often_cells xs ys often)

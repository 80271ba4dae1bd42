-- The test for the same cell tells equal cells. Assumes nothing.
use Rattle.std.proofs.Common.{◌≡◌, true, eqb, refl}
use Rattle.std.proofs.lemmas.Bool.{and_parts, and_from, eqb-true, eq-eqb}
use Rattle.grid.specs.Cells.{same}
use Rattle.grid.specs.declared.cell.Cell.{Cell}

pub same_equal : (c d : Cell) → same c d ≡ true → c ≡ d
same_equal c d h =
    let parts = and_parts (eqb c.x d.x) (eqb c.y d.y) h in
    let column = eqb-true c.x d.x parts.0 in
    let row = eqb-true c.y d.y parts.1 in
    λ i. record { x = column i; y = row i }

pub same_self : (c : Cell) → same c c ≡ true
same_self c = and_from _ _ (eq-eqb c.x c.x refl) (eq-eqb c.y c.y refl)

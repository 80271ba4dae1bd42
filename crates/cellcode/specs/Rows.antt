-- The row code: a number tells the row and the column. Assumes nothing.
use Rattle.std.specs.Prelude.{◌≡◌, ℕ, ◌*◌, ◌/◌, ◌<◌, ◌≤◌, true}
use Rattle.std.proofs.Common.{ap, sym, ◌∙◌, mul-le-mul, arith}
use Rattle.std.proofs.lemmas.Nat.{div-mul-add}
use Rattle.grid.specs.Cells.{on}
use Rattle.grid.specs.Sides.{allowed}
use Rattle.grid.specs.declared.cell.Cell.{Cell}
use Rattle.cellcode.specs.Codes.{CodeLaws}
use Rattle.cellcode.specs.Row.{row}
use Rattle.cellcode.specs.Ons.{on_below, allowed-most}

row_below : (side : ℕ) (p c : Cell) → allowed side ≡ true → on side p ≡ true → on side c ≡ true → row side p c < 4398046511104
row_below side p c h on-p on-c =
    let most : side ≤ 1048576 = allowed-most side h in
    let small = on_below side c on-c in
    let y : c.y ≤ 1048576 = omega (arith, small.1) in
    omega (arith, mul-le-mul y most, small.0)

row_distinct : (side : ℕ) (p c d : Cell) → on side c ≡ true → on side d ≡ true → row side p c ≡ row side p d → c ≡ d
row_distinct side p c d on-c on-d same =
    let one = (on_below side c on-c).0 in
    let other = (on_below side d on-d).0 in
    let rows : c.y ≡ d.y = sym (div-mul-add c.y side c.x one) ∙ ap (λ n. n / side) same ∙ div-mul-add d.y side d.x other in
    let columns : c.x ≡ d.x = omega (arith, ap (λ n. n * side) rows) in
    λ i. record { x = columns i; y = rows i }

pub row_laws : CodeLaws row
row_laws = record { below = row_below; distinct = λ side p c d h on-p. row_distinct side p c d }

-- Decoding by the ring code: whether the grid has the cell that a number of ring d leads to. Assumes nothing.
use Rattle.std.proofs.Common.{◌≡◌, ℕ, zero, suc, ◌-◌, ◌*◌, ◌≤◌, true, Some, None, ◌∙◌, arith}
use Rattle.grid.specs.Cells.{on}
use Rattle.grid.specs.declared.cell.Cell.{Cell}
use Rattle.grid.specs.declared.grid.Grid.{Grid}
use Rattle.cellcode.specs.Codes.{Decodes}
use Rattle.cellcode.specs.Ring.{ring, first}
use Rattle.cellcode.specs.Spiral.{InRing, Coordinate, across, down}
use Rattle.cellcode.specs.Ons.{on_below, below_on, from_to_allowed}
use Rattle.cellcode.specs.Rings.{ring-below, reads, finds, width}

-- no cell has a number that is too large for all of them
pub past_all : (grid : Grid) (p : Cell) (n : ℕ) → 4398046511104 ≤ n → Decodes ring grid.side p n None
past_all grid p n large c on-p on-c is =
    omega (arith, is, ring-below grid.side p c (from_to_allowed _ grid.low grid.high) on-p on-c)

-- a ring has 8d numbers, but ring 0, which has one
pub few_steps : (n d : ℕ) → InRing n d → n - first d ≤ 8 * d
few_steps n zero at = omega (arith, at.to)
few_steps n (suc d) at = omega (arith, at.to, width (suc d) (omega arith))

-- the place of the number in ring d, whose first number is f
module _ (side : ℕ) (p : Cell) (n d f : ℕ) (at : InRing n d) (begins : f ≡ first d) where
  pub no_column : (a : ℕ) → a ≡ across d (n - f) → Coordinate side p.x d a None → Decodes ring side p n None
  no_column a is none c on-p on-c leads = none c.x (on_below side c on-c).0 ((reads side p c n d leads at).column ∙ cc)

  pub no_row : (b : ℕ) → b ≡ down d (n - f) → Coordinate side p.y d b None → Decodes ring side p n None
  no_row b is none c on-p on-c leads = none c.y (on_below side c on-c).1 ((reads side p c n d leads at).row ∙ cc)

  pub both : (a b x y : ℕ) → a ≡ across d (n - f) → b ≡ down d (n - f) → on side p ≡ true → Coordinate side p.x d a (Some x) → Coordinate side p.y d b (Some y) → Decodes ring side p n (Some (record { x = x; y = y }))
  both a b x y is-a is-b on-p column row =
      let c : Cell = record { x = x; y = y } in
      (on-p, below_on side c column.0 row.0, finds side p c n d at (record { column = column.1 ∙ cc; row = row.1 ∙ cc }))

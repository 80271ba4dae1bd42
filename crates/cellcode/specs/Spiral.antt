-- The steps of the ring code in natural numbers.
use Rattle.std.specs.Prelude.{◌≡◌, ℕ, ◌+◌, ◌-◌, ◌*◌, ◌<◌, ◌≤◌, max, cond, Some, None, Option, ◌≢◌, nat_lt}
use Rattle.grid.specs.declared.cell.Cell.{Cell}
use Rattle.cellcode.specs.Ring.{first}

-- the ring of a cell around its parent, the greater of the two distances: one of the differences is 0
abbrev pub far : Cell → Cell → ℕ
far parent cell =
    max ((parent.x - cell.x) + (cell.x - parent.x)) ((parent.y - cell.y) + (cell.y - parent.y))

-- ring d has the number n: those from (2d - 1)² to (2d + 1)² - 1
pub record InRing (n d : ℕ) : Type 0 where
  pub from : first d ≤ n
  pub to : n < (2 * d + 1) * (2 * d + 1)

-- one of four numbers by the side that step s of ring d is on, with 2d steps a side
abbrev pub by_side : ℕ → ℕ → ℕ → ℕ → ℕ → ℕ → ℕ
by_side d s a b c e = cond (nat_lt s (2 * d)) a (cond (nat_lt s (4 * d)) b (cond (nat_lt s (6 * d)) c e))

-- the column of step s in the square of the rings up to d, from its corner at dx = -d and dy = -d
unfoldable pub across : ℕ → ℕ → ℕ
across d s = by_side d s (2 * d) (4 * d - s) 0 (s - 6 * d)

-- and the row
unfoldable pub down : ℕ → ℕ → ℕ
down d s = by_side d s (2 * d - s) 0 (s - 4 * d) (2 * d)

-- the coordinate at that place around a parent's coordinate, if the grid has it
abbrev pub Coordinate : ℕ → ℕ → ℕ → ℕ → Option ℕ → Type 0
Coordinate side from d place (Some x) = (x < side) × (x + d ≡ from + place)
Coordinate side from d place None = (x : ℕ) → x < side → x + d ≢ from + place

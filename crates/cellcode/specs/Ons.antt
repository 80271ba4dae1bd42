-- What lies on a grid, and which grids there are: the tests as orders of numbers. Assumes nothing.
use Rattle.std.specs.Prelude.{◌≡◌, ℕ, ◌<◌, ◌≤◌, true, nat_le, nat_lt}
use Rattle.std.proofs.lemmas.Bool.{and_parts, and_from, ltb-true, lt-ltb, leb-true, le-leb}
use Rattle.grid.specs.Cells.{on}
use Rattle.grid.specs.Sides.{allowed}
use Rattle.grid.specs.declared.cell.Cell.{Cell}

pub on_below : (side : ℕ) (c : Cell) → on side c ≡ true → (c.x < side) × (c.y < side)
on_below side c h = let parts = and_parts (nat_lt c.x side) (nat_lt c.y side) h in (ltb-true _ _ parts.0, ltb-true _ _ parts.1)

pub below_on : (side : ℕ) (c : Cell) → c.x < side → c.y < side → on side c ≡ true
below_on side c column row = and_from _ _ (lt-ltb _ _ column) (lt-ltb _ _ row)

pub allowed-most : (side : ℕ) → allowed side ≡ true → side ≤ 1048576
allowed-most side h = leb-true side 1048576 (and_parts (nat_le 1 side) (nat_le side 1048576) h).1

pub from_to_allowed : (side : ℕ) → 1 ≤ side → side ≤ 1048576 → allowed side ≡ true
from_to_allowed side low high = and_from _ _ (le-leb _ _ low) (le-leb _ _ high)

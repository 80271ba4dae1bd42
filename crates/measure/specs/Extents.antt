-- The measure of how far the hits reach.
use Rattle.std.specs.Prelude.{ℕ, ◌≤◌, min, max, List}
use Rattle.std.specs.List.{AllByRecursion}
use Rattle.grid.specs.declared.cell.Cell.{Cell}
use Rattle.measure.specs.Measures.{Figures}
use Rattle.measure.specs.declared.extent.Bounds.{Bounds}

-- the greatest coordinate that there is
abbrev last : ℕ
last = 4294967295

-- the least and the greatest x and y of the hits; of no hit each least is the greatest coordinate, and each greatest is 0
abbrev pub extents : Figures Bounds
extents = record {
  Good = λ b. (b.left ≤ last) × (b.low ≤ last);
  none = record { left = last; right = 0; low = last; high = 0 };
  one = λ c. record { left = min last c.x; right = c.x; low = min last c.y; high = c.y };
  join = λ a b. record { left = min a.left b.left; right = max a.right b.right; low = min a.low b.low; high = max a.high b.high };
}

-- a hit lies in a box
pub record Inside (b : Bounds) (c : Cell) : Type 0 where
  pub from_left : b.left ≤ c.x
  pub to_right : c.x ≤ b.right
  pub from_low : b.low ≤ c.y
  pub to_high : c.y ≤ b.high

-- a box lies in another
pub record Within (a b : Bounds) : Type 0 where
  pub from_left : b.left ≤ a.left
  pub to_right : a.right ≤ b.right
  pub from_low : b.low ≤ a.low
  pub to_high : a.high ≤ b.high

-- the smallest box that has every hit: every hit lies in it, and it lies in every other such box
pub record Smallest (hits : List Cell) (b : Bounds) : Type 0 where
  pub has : AllByRecursion (Inside b) hits
  pub least : (other : Bounds) → extents.Good other → AllByRecursion (Inside other) hits → Within b other

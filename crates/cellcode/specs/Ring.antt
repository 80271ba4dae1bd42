-- The ring code: a square spiral around the parent, ring by ring.
use Rattle.std.specs.Prelude.{ℕ, ◌+◌, ◌-◌, ◌*◌, max, Bool, cond, ◌&&◌, ℤ, pos, negsuc, ◌+ℤ◌, ◌-ℤ◌, ◌*ℤ◌, neg_ℤ, ◌==◌, int_le, int_lt, unsigned_abs}
use Rattle.grid.specs.declared.cell.Cell.{Cell}

-- how far b lies from a, an integer
abbrev pub along : ℕ → ℕ → ℤ
along a b = pos b -ℤ pos a

-- the ring of the cell that lies dx and dy from the parent: the greater of the two distances
abbrev pub distance : ℤ → ℤ → ℕ
distance dx dy = max (unsigned_abs dx) (unsigned_abs dy)

-- two integers are the same
abbrev pub is : ℤ → ℤ → Bool
is a b = int_le a b && int_le b a

-- which step along ring d leads to that cell, counted from 0, by the side of the ring that it lies on:
-- dx = d with dy > -d; dy = -d with dx > -d; dx = -d with dy < d; and what is left, dy = d with dx < d
unfoldable pub step : ℤ → ℤ → ℤ → ℤ
step d dx dy =
    cond (is dx d && int_lt (neg_ℤ d) dy) (d -ℤ dy)
    (cond (is dy (neg_ℤ d) && int_lt (neg_ℤ d) dx) (pos 3 *ℤ d -ℤ dx)
    (cond (is dx (neg_ℤ d) && int_lt dy d) (pos 5 *ℤ d +ℤ dy)
    (pos 7 *ℤ d +ℤ dx)))

-- an integer that is not negative, as a natural number
abbrev pub nat : ℤ → ℕ
nat (pos n) = n
nat (negsuc n) = 0

-- the first number of ring d, where d is not 0; the parent itself, ring 0, has the number 0
abbrev pub first : ℕ → ℕ
first d = (2 * d - 1) * (2 * d - 1)

-- the number of the cell that lies dx and dy from the parent
unfoldable pub numbered : ℤ → ℤ → ℕ
numbered dx dy =
    let d = distance dx dy in
    cond (d == 0) 0 (first d + nat (step (pos d) dx dy))

-- the number of a cell from its parent, on a grid of any side
unfoldable pub ring : ℕ → Cell → Cell → ℕ
ring side parent cell = numbered (along parent.x cell.x) (along parent.y cell.y)

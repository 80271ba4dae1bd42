-- What the exported functions answer in one number.
use Rattle.std.specs.Prelude.{◌≡◌, ℕ, ◌+◌, ◌^◌, ◌<◌, true, false, cond, ◌&&◌, List, length, Some, None, Option, slice_index}
use Rattle.grid.specs.Cells.{on}
use Rattle.grid.specs.Joined.{joined, cell_of_joined}
use Rattle.grid.specs.Sides.{allowed}
use Rattle.grid.specs.declared.cell.Cell.{Cell}
use Rattle.cellcode.specs.Codes.{Decodes}

-- the number of a cell, or 2^63 and the number of the refusal
abbrev pub encoded : (ℕ → Cell → Cell → ℕ) → ℕ → Cell → Cell → ℕ
encoded code side parent cell =
    cond (allowed side) (cond (on side parent && on side cell) (code side parent cell) (2 ^ 63 + 2)) (2 ^ 63 + 1)

-- each cell, which is given as one number, is replaced by its number
abbrev pub EncodedEach : (ℕ → Cell → Cell → ℕ) → ℕ → Cell → List ℕ → List ℕ → Type 0
EncodedEach code side parent old new =
    (k : ℕ) → k < length old → slice_index new k ≡ encoded code side parent (cell_of_joined (slice_index old k))

-- a cell as one number, and 2^64 - 1 for none
abbrev pub told : Option Cell → ℕ
told None = 18446744073709551615
told (Some c) = joined c

-- what decoding finds, as one number; on no grid there is no cell
pub record Found (code : ℕ → Cell → Cell → ℕ) (side : ℕ) (parent : Cell) (n r : ℕ) : Type 0 where
  pub found : Option Cell
  pub is : r ≡ told found
  pub decodes : allowed side ≡ true → Decodes code side parent n found
  pub no_grid : allowed side ≡ false → found ≡ None

-- each number is replaced by what decoding it finds
abbrev pub FoundEach : (ℕ → Cell → Cell → ℕ) → ℕ → Cell → List ℕ → List ℕ → Type 0
FoundEach code side parent old new =
    (k : ℕ) → k < length old → Found code side parent (slice_index old k) (slice_index new k)

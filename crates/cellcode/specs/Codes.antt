-- Cell codes: what each owes, and what encoding and decoding give.
use Rattle.std.specs.Prelude.{◌≡◌, ℕ, ◌^◌, ◌<◌, true, false, ◌&&◌, Some, None, Ok, Err, Option, Result, ◌≢◌}
use Rattle.grid.specs.Cells.{on}
use Rattle.grid.specs.Sides.{allowed}
use Rattle.grid.specs.declared.cell.Cell.{Cell}
use Rattle.cellcode.specs.declared.refusal.OffGrid.{OffGrid}

-- what a code owes on every grid that there is, from every parent on it
pub record CodeLaws (code : ℕ → Cell → Cell → ℕ) : Type 0 where
  -- each number is below 2^42
  pub below : (side : ℕ) (parent cell : Cell) → allowed side ≡ true → on side parent ≡ true → on side cell ≡ true → code side parent cell < 2 ^ 42
  -- no two cells have the same number
  pub distinct : (side : ℕ) (parent cell other : Cell) → allowed side ≡ true → on side parent ≡ true → on side cell ≡ true → on side other ≡ true → code side parent cell ≡ code side parent other → cell ≡ other

-- encoding gives the number of the cell where both cells lie on the grid, and is refused where one does not
abbrev pub Encoded : (ℕ → Cell → Cell → ℕ) → ℕ → Cell → Cell → Result ℕ OffGrid → Type 0
Encoded code side parent cell (Ok n) = (on side parent ≡ true) × (on side cell ≡ true) × (n ≡ code side parent cell)
Encoded code side parent cell (Err e) = (on side parent && on side cell) ≡ false

-- decoding gives a cell of the grid that has the number, and none only where no cell of the grid has it or the parent is
-- off the grid
abbrev pub Decodes : (ℕ → Cell → Cell → ℕ) → ℕ → Cell → ℕ → Option Cell → Type 0
Decodes code side parent n (Some cell) = (on side parent ≡ true) × (on side cell ≡ true) × (code side parent cell ≡ n)
Decodes code side parent n None = (cell : Cell) → on side parent ≡ true → on side cell ≡ true → code side parent cell ≢ n

-- encoding and then decoding gives the cell again where both cells lie on the grid, and is refused where one does not
abbrev pub RoundTrip : ℕ → Cell → Cell → Result (Option Cell) OffGrid → Type 0
RoundTrip side parent cell (Ok found) = (on side parent ≡ true) × (on side cell ≡ true) × (found ≡ Some cell)
RoundTrip side parent cell (Err e) = (on side parent && on side cell) ≡ false

-- whatever number encoding the cell gives, whatever decoding that number gives is the cell
abbrev pub ComesBack : (ℕ → Cell → Cell → ℕ) → ℕ → Cell → Cell → Type 0
ComesBack code side parent cell = (n : ℕ) (found : Option Cell) → Encoded code side parent cell (Ok n) → Decodes code side parent n found → found ≡ Some cell

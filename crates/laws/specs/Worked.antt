-- Worked examples, about the definitions that the contracts cite.
use Rattle.std.specs.Prelude.{◌≡◌, ℕ, List, [], ◌∷◌, Some, None}
use Rattle.grid.specs.declared.cell.Cell.{Cell}
use Rattle.cellcode.specs.Codes.{Decodes}
use Rattle.cellcode.specs.Ring.{ring}
use Rattle.numlist.specs.Cuts.{cut}
use Rattle.numlist.specs.Fixed.{fixed}
use Rattle.numlist.specs.Parts.{lows, marks, parts}

-- the cell in a column and a row
abbrev pub at : ℕ → ℕ → Cell
at x y = record { x = x; y = y }

-- the numbers of the worked cut
abbrev pub four : List ℕ
four = 25 ∷ 2 ∷ 70 ∷ 10 ∷ []

pub record Worked : Type 0 where
  pub ring_near : ring 16 (at 5 3) (at 4 7) ≡ 76
  pub ring_corners : ring 1048576 (at 0 0) (at 1048575 1048575) ≡ 4398033928201
  pub ring_first : Decodes ring 16 (at 0 0) 1 (Some (at 1 1))
  pub ring_off_the_grid : Decodes ring 16 (at 0 0) 5 None
  -- cut 3 of 25, 2, 70, 10, and its string over a fixed list of width 4
  pub cut_lows : lows 3 four ≡ 1 ∷ 2 ∷ 6 ∷ 2 ∷ []
  pub cut_marks : marks 3 four ≡ 1 ∷ 0 ∷ 1 ∷ 1 ∷ []
  pub cut_highs : parts 3 four ≡ 3 ∷ 8 ∷ 1 ∷ []
  pub cut_string : (cut 3 (fixed 4)).string four ≡ 145 ∷ 5 ∷ 13 ∷ 0 ∷ 0 ∷ 0 ∷ 0 ∷ 131 ∷ 1 ∷ []

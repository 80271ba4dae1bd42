-- The number by which the refusal of this layer is known.
use Rattle.std.specs.Prelude.{ℕ}
use Rattle.cellcode.specs.declared.refusal.OffGrid.{OffGrid}

-- the cell or its parent is off the grid
abbrev pub number : OffGrid → ℕ
number refused = 2

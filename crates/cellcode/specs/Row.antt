-- The row code: the rows of the grid one after the other, the same from every parent.
use Rattle.std.specs.Prelude.{ℕ, ◌+◌, ◌*◌}
use Rattle.grid.specs.declared.cell.Cell.{Cell}

-- the number of a cell on a grid of this side
abbrev pub row : ℕ → Cell → Cell → ℕ
row side parent cell = cell.y * side + cell.x

-- A cell as one number, for callers that pass numbers.
use Rattle.std.specs.Prelude.{ℕ, ◌+◌, ◌*◌, ◌/◌, ◌%◌, ◌^◌}
use Rattle.grid.specs.declared.cell.Cell.{Cell}

-- the column in the upper half of 64 bits, the row in the lower
abbrev pub joined : Cell → ℕ
joined c = c.x * 2 ^ 32 + c.y

-- the cell whose column is the upper half of a number and whose row is the lower
abbrev pub cell_of_joined : ℕ → Cell
cell_of_joined n = record { x = n / 2 ^ 32; y = n % 2 ^ 32 }

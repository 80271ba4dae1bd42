-- The two orders of cells: by column and then by row, and by row and then by column.
use Rattle.std.specs.Prelude.{ℕ, Bool, ◌&&◌, ◌||◌, ◌==◌, nat_lt}
use Rattle.grid.specs.declared.cell.Cell.{Cell}
use Rattle.select.specs.declared.element.Axis.{Axis}
use Rattle.select.specs.declared.element.Axis.TheVariants.{X, Y}

-- the coordinate that an axis compares first
abbrev pub first : Axis → Cell → ℕ
first X c = c.x
first Y c = c.y

-- the coordinate that decides where the first one is equal
abbrev pub second : Axis → Cell → ℕ
second X c = c.y
second Y c = c.x

-- a cell comes before another by its first coordinate, and at equal ones by its second
abbrev pub before : Axis → Cell → Cell → Bool
before axis c d = nat_lt (first axis c) (first axis d) || (first axis c == first axis d && nat_lt (second axis c) (second axis d))

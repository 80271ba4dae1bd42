-- Cells: when two are the same, when one lies on a grid, and how often a list has one.
use Rattle.std.specs.Prelude.{ℕ, Bool, ◌&&◌, List, count_by, ◌==◌, nat_lt}
use Rattle.grid.specs.declared.cell.Cell.{Cell}

-- the cell in the corner; what a list is read as past its end
abbrev pub origin : Cell
origin = record { x = 0; y = 0 }

-- the same column and the same row
abbrev pub same : Cell → Cell → Bool
same c d = c.x == d.x && c.y == d.y

-- on a grid of side s: both coordinates are below s
abbrev pub on : ℕ → Cell → Bool
on s c = nat_lt c.x s && nat_lt c.y s

-- how often cell c stands in a list of hits
abbrev pub count : Cell → List Cell → ℕ
count c hits = count_by (same c) hits

-- The measure of where the hits lie on the whole: three sums.
use Rattle.std.specs.Prelude.{ℕ, ◌+◌, ◌*◌, ◌%◌, ◌^◌, ◌<◌, List, sum_by}
use Rattle.grid.specs.declared.cell.Cell.{Cell}
use Rattle.measure.specs.Measures.{Figures}
use Rattle.measure.specs.declared.sums.Totals.{Totals}

-- numbers of a figure are of 64 bits
abbrev wrap : ℕ → ℕ
wrap n = n % 2 ^ 64

-- the sums of x, of y and of x² + y² over the hits, each modulo 2^64
abbrev pub sums : Figures Totals
sums = record {
  Good = λ t. (t.x < 2 ^ 64) × (t.y < 2 ^ 64) × (t.squares < 2 ^ 64);
  none = record { x = 0; y = 0; squares = 0 };
  one = λ c. record { x = wrap c.x; y = wrap c.y; squares = wrap (c.x * c.x + c.y * c.y) };
  join = λ t u. record { x = wrap (t.x + u.x); y = wrap (t.y + u.y); squares = wrap (t.squares + u.squares) };
}

-- the sums over a list of hits, taken whole and then modulo 2^64
abbrev pub totals : List Cell → Totals
totals hits = record {
  x = wrap (sum_by (λ c. c.x) hits);
  y = wrap (sum_by (λ c. c.y) hits);
  squares = wrap (sum_by (λ c. c.x * c.x + c.y * c.y) hits);
}

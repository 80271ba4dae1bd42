-- The measure of how many hits there are.
use Rattle.std.specs.Prelude.{ℕ, ◌+◌, ◌%◌, ◌^◌, ◌<◌}
use Rattle.measure.specs.Measures.{Figures}

-- the number of the hits modulo 2^64
abbrev pub counts : Figures ℕ
counts = record {
  Good = λ n. n < 2 ^ 64;
  none = 0;
  one = λ c. 1;
  join = λ m n. (m + n) % 2 ^ 64;
}

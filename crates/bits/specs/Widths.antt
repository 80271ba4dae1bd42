-- The numbers of bits that a number may take.
use Rattle.std.specs.Prelude.{ℕ, Bool, ◌&&◌, nat_le}

abbrev pub allowed : ℕ → Bool
allowed bits = nat_le 1 bits && nat_le bits 48

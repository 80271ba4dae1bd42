-- Which sides a grid can have.
use Rattle.std.specs.Prelude.{ℕ, Bool, ◌&&◌, nat_le}

-- from 1 to 1,048,576
abbrev pub allowed : ℕ → Bool
allowed side = nat_le 1 side && nat_le side 1048576

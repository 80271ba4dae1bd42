-- The number by which a refusal of this layer is known.
use Rattle.std.specs.Prelude.{ℕ}
use Rattle.grid.specs.declared.refusal.SideRefused.{SideRefused}

-- the side is out of range
abbrev pub number : SideRefused → ℕ
number refused = 1

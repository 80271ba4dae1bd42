-- The number by which a refusal of this layer is known.
use Rattle.std.specs.Prelude.{ℕ}
use Rattle.line.specs.declared.refusal.NotUnderstood.{NotUnderstood}

-- the line is not understood
abbrev pub number : NotUnderstood → ℕ
number refused = 17

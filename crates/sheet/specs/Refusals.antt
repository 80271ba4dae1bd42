-- The numbers by which the refusals of this layer are known.
use Rattle.std.specs.Prelude.{ℕ}
use Rattle.sheet.specs.declared.refusal.Refusal.{Refusal}
use Rattle.sheet.specs.declared.refusal.Refusal.TheVariants.{OffGrid, Full, NotHeld}

abbrev pub number : Refusal → ℕ
number OffGrid = 2
number Full = 3
number NotHeld = 4

-- The number of each refusal.
use Rattle.std.specs.Prelude.{ℕ}
use Rattle.pile.specs.declared.refusal.PileRefused.{PileRefused}
use Rattle.pile.specs.declared.refusal.PileRefused.TheVariants.{Width, Reach, TooMany}

abbrev pub number : PileRefused → ℕ
number Width = 10
number Reach = 11
number TooMany = 11

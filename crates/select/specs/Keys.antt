-- Pairs of numbers in the order of their first part and then their second, and cells by that order. Assumes nothing.
use Rattle.std.specs.Prelude.{◌≡◌, ℕ, Bool, true, false, ◌&&◌, ◌||◌, ◌==◌, nat_lt}
use Rattle.std.proofs.Common.{arith}
use Rattle.std.proofs.lemmas.Bool.Decides.{nat_tests}
use Rattle.grid.specs.declared.cell.Cell.{Cell}
use Rattle.select.specs.CellOrders.{before, first, second}
use Rattle.select.specs.Orders.{TotalOrders}
use Rattle.select.specs.declared.element.Axis.{Axis}
use Rattle.select.specs.declared.element.Axis.TheVariants.{X, Y}

-- a before b, or the same and c before d
abbrev ordered : ℕ → ℕ → ℕ → ℕ → Bool
ordered a c b d = nat_lt a b || (a == b && nat_lt c d)

never : (a c : ℕ) → ordered a c a c ≡ false
never a c = grind (arith, nat_tests)

chained : (a c b d e f : ℕ) → ordered a c b d ≡ true → ordered b d e f ≡ true → ordered a c e f ≡ true
chained a c b d e f p q = grind (arith, nat_tests)

tied : (a c b d : ℕ) → ordered a c b d ≡ false → ordered b d a c ≡ false → (a ≡ b) × (c ≡ d)
tied a c b d p q = (grind (arith, nat_tests), grind (arith, nat_tests))

same_parts : (axis : Axis) (c d : Cell) → (first axis c ≡ first axis d) × (second axis c ≡ second axis d) → c ≡ d
same_parts X c d same = λ i. record { x = same.0 i; y = same.1 i }
same_parts Y c d same = λ i. record { x = same.1 i; y = same.0 i }

pub cells_total : TotalOrders before
cells_total = record {
  irreflexive = λ axis c. never (first axis c) (second axis c);
  transitive = λ axis c d e. chained (first axis c) (second axis c) (first axis d) (second axis d) (first axis e) (second axis e);
  same = λ axis c d p q. same_parts axis c d (tied (first axis c) (second axis c) (first axis d) (second axis d) p q);
}

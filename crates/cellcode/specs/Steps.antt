-- The steps of the ring code in natural numbers: a ring d around a parent at column a and row b, and a cell at column x
-- and row y of it. Assumes nothing.
use Rattle.std.specs.Prelude.{◌≡◌, ℕ, ◌+◌, ◌-◌, ◌*◌, ◌<◌, ◌≤◌, max, pos, ◌+ℤ◌, ◌-ℤ◌, ◌*ℤ◌, neg_ℤ, ◌==◌, int_lt, nat_lt, unsigned_abs}
use Rattle.std.proofs.Math.Logic.{inl, inr}
use native.Mathlib.Omega.{arith}
use Rattle.std.proofs.lemmas.Int.{ints}
use Rattle.std.proofs.lemmas.Bool.{cases_eq, cases_lt}
use Rattle.std.proofs.lemmas.Bool.Decides.{nat_tests}
use Rattle.cellcode.specs.Ring.{along, is, step}
use Rattle.cellcode.specs.Spiral.{across, down}

-- the distance of two numbers, as the code computes it
pub apart : (a b : ℕ) → unsigned_abs (along a b) ≡ (a - b) + (b - a)
apart a b = grind (arith, ints, nat_tests)

-- the tests of a step, in natural numbers
is_ahead : (d a b : ℕ) → is (along a b) (pos d) ≡ (b == a + d)
is_ahead d a b = grind (arith, ints, nat_tests)

is-behind : (d a b : ℕ) → is (along a b) (neg_ℤ (pos d)) ≡ (b + d == a)
is-behind d a b = grind (arith, ints, nat_tests)

past_behind : (d a b : ℕ) → int_lt (neg_ℤ (pos d)) (along a b) ≡ nat_lt a (b + d)
past_behind d a b = grind (arith, ints, nat_tests)

short_of_ahead : (d a b : ℕ) → int_lt (along a b) (pos d) ≡ nat_lt b (a + d)
short_of_ahead d a b = grind (arith, ints, nat_tests)

-- the side of the ring that the cell lies on, and which step s leads to it
pub data Stands (d a b x y s : ℕ) : Type 0 where
  right : x ≡ a + d → b < y + d → y ≤ b + d → s + y ≡ d + b → Stands d a b x y s
  top : y + d ≡ b → a < x + d → x ≤ a + d → s + x ≡ 3 * d + a → Stands d a b x y s
  left : x + d ≡ a → y < b + d → b ≤ y + d → s + b ≡ 5 * d + y → Stands d a b x y s
  bottom : y ≡ b + d → x < a + d → a ≤ x + d → s + a ≡ 7 * d + x → Stands d a b x y s

module _ (d a b x y s : ℕ) (some : 1 ≤ d) where
  pub stands_step : Stands d a b x y s → step (pos d) (along a x) (along b y) ≡ pos s
  unfolding step
  stands_step (right e f g h) =
      let value : pos d -ℤ along b y ≡ pos s = omega (arith, ints) in
      simp (is_ahead, is-behind, past_behind, short_of_ahead, value) (grind (arith, nat_tests))
  stands_step (top e f g h) =
      let value : pos 3 *ℤ pos d -ℤ along a x ≡ pos s = omega (arith, ints) in
      simp (is_ahead, is-behind, past_behind, short_of_ahead, value) (grind (arith, nat_tests))
  stands_step (left e f g h) =
      let value : pos 5 *ℤ pos d +ℤ along b y ≡ pos s = omega (arith, ints) in
      simp (is_ahead, is-behind, past_behind, short_of_ahead, value) (grind (arith, nat_tests))
  stands_step (bottom e f g h) =
      let value : pos 7 *ℤ pos d +ℤ along a x ≡ pos s = omega (arith, ints) in
      simp (is_ahead, is-behind, past_behind, short_of_ahead, value) (grind (arith, nat_tests))

  pub stands_place : Stands d a b x y s → (s < 8 * d) × (x + d ≡ a + across d s) × (y + d ≡ b + down d s)
  unfolding across down
  stands_place (right e f g h) = (omega arith, grind (arith, nat_tests), grind (arith, nat_tests))
  stands_place (top e f g h) = (omega arith, grind (arith, nat_tests), grind (arith, nat_tests))
  stands_place (left e f g h) = (omega arith, grind (arith, nat_tests), grind (arith, nat_tests))
  stands_place (bottom e f g h) = (omega arith, grind (arith, nat_tests), grind (arith, nat_tests))

  pub stands_far : Stands d a b x y s → max ((a - x) + (x - a)) ((b - y) + (y - b)) ≡ d
  stands_far (right e f g h) = omega arith
  stands_far (top e f g h) = omega arith
  stands_far (left e f g h) = omega arith
  stands_far (bottom e f g h) = omega arith

  pub place_stands : s < 8 * d → x + d ≡ a + across d s → y + d ≡ b + down d s → Stands d a b x y s
  unfolding across down
  place_stands within column row =
      elim (cases_lt s (4 * d)) [
        | inl h ↦ elim (cases_lt s (2 * d)) [
          | inl k ↦ right (grind (arith, nat_tests)) (grind (arith, nat_tests)) (grind (arith, nat_tests)) (grind (arith, nat_tests))
          | inr k ↦ top (grind (arith, nat_tests)) (grind (arith, nat_tests)) (grind (arith, nat_tests)) (grind (arith, nat_tests))
        ]
        | inr h ↦ elim (cases_lt s (6 * d)) [
          | inl k ↦ left (grind (arith, nat_tests)) (grind (arith, nat_tests)) (grind (arith, nat_tests)) (grind (arith, nat_tests))
          | inr k ↦ bottom (grind (arith, nat_tests)) (grind (arith, nat_tests)) (grind (arith, nat_tests)) (grind (arith, nat_tests))
        ]
      ]

-- every cell of a ring stands on one of its sides
module _ (d a b x y : ℕ) (some : 1 ≤ d) (far : max ((a - x) + (x - a)) ((b - y) + (y - b)) ≡ d) where
  pub stands : (s : ℕ) × Stands d a b x y s
  stands =
      elim (cases_eq x (a + d)) [
        | inl e ↦ elim (cases_lt b (y + d)) [ inl h ↦ at_right e h | inr h ↦ at_top (omega arith) (omega arith) ]
        | inr n ↦ elim (cases_lt a (x + d)) [
          | inl h ↦ elim (cases_eq (y + d) b) [ inl e ↦ at_top e h | inr k ↦ at_bottom (omega arith) (omega arith) ]
          | inr h ↦ elim (cases_lt y (b + d)) [ inl k ↦ at_left (omega arith) k | inr k ↦ at_bottom (omega arith) (omega arith) ]
        ]
      ]
    where
      at_right : x ≡ a + d → b < y + d → (s : ℕ) × Stands d a b x y s
      at_right e h = (d + b - y, right e h (omega arith) (omega arith))

      at_top : y + d ≡ b → a < x + d → (s : ℕ) × Stands d a b x y s
      at_top e h = (3 * d + a - x, top e h (omega arith) (omega arith))

      at_left : x + d ≡ a → y < b + d → (s : ℕ) × Stands d a b x y s
      at_left e h = (5 * d + y - b, left e h (omega arith) (omega arith))

      at_bottom : y ≡ b + d → x < a + d → (s : ℕ) × Stands d a b x y s
      at_bottom e h = (7 * d + x - a, bottom e h (omega arith) (omega arith))

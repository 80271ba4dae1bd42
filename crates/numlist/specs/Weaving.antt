-- Numbers and their parts, woven together and taken apart. Assumes nothing.
use Rattle.std.specs.Prelude.{◌≡◌, ℕ, zero, suc, ◌+◌, ◌*◌, ◌/◌, ◌%◌, ◌^◌, ◌<◌, ◌≤◌, true, false, List, [], ◌∷◌, length, take, drop, sum, slice_index}
use Rattle.std.proofs.Math.Path.{refl, ap}
use Rattle.std.proofs.Common.{sym, ◌∙◌, mul-le-mul_right, pow-add, pow_mono, get_or-drop}
use Rattle.std.proofs.Math.Logic.{inl, inr}
use Rattle.std.proofs.Math.Nat.{mod-eq_of_lt}
use native.Mathlib.Omega.{arith}
use Rattle.std.proofs.Math.Arith.{digits_lt}
use Rattle.std.proofs.Math.Pow.{split, low, high}
use Rattle.std.specs.List.{AllByRecursion}
use Rattle.std.proofs.lemmas.List.Sums.{sum_by-cons}
use Rattle.std.proofs.lemmas.Bool.{cases_Bool, leb-false, le-leb, lt-leb}
use Rattle.bits.specs.Packing.{Narrow}
use Rattle.numlist.specs.Parts.{lows, marked, marks, parts, weave}

module _ (b : ℕ) where
  pub weave_back : (xs : List ℕ) → weave b (lows b xs) (marks b xs) (parts b xs) ≡ xs
  unfolding weave
  weave_back [] = refl
  weave_back (x ∷ xs) =
      elim (cases_Bool (marked b x)) [
        | inl e ↦ let head : x % 2 ^ b + 2 ^ b * (1 * (x / 2 ^ b)) ≡ x = omega (arith, split x b) in
            rw e (λ i. head i ∷ weave_back xs i)
        | inr e ↦ let none = mod-eq_of_lt (leb-false (2 ^ b) x e) in
            let head : x % 2 ^ b + 2 ^ b * (0 * slice_index (parts b xs) 0) ≡ x = omega arith in
            rw e (λ i. head i ∷ weave_back xs i)
      ]

  -- number i by itself: its high part stands behind those of the 1 marks before it
  pub get_or-weave :
      (ls ms hs : List ℕ) (i : ℕ) → length ls ≡ length ms → i < length ls
      → slice_index (weave b ls ms hs) i ≡ slice_index ls i + 2 ^ b * (slice_index ms i * slice_index hs (sum (take i ms)))
  unfolding weave
  get_or-weave [] ms hs i same h = absurd (omega arith)
  get_or-weave (l ∷ ls) [] hs i same h = absurd (omega arith)
  get_or-weave (l ∷ ls) (m ∷ ms) hs zero same h = refl
  get_or-weave (l ∷ ls) (m ∷ ms) hs (suc i) same h =
      get_or-weave ls ms (drop m hs) i (omega arith) (omega arith)
      ∙ ap (λ n. slice_index ls i + 2 ^ b * (slice_index ms i * n)) (get_or-drop m hs (sum (take i ms)) 0)
      ∙ ap (λ n. slice_index ls i + 2 ^ b * (slice_index ms i * slice_index hs n)) (sym (sum_by-cons (λ x. x) m (take i ms)))

-- xs has these low parts, marks and high parts, the high parts having at most r bits
pub record Woven (b r : ℕ) (ls ms hs xs : List ℕ) : Type 0 where
  pub low_parts : lows b xs ≡ ls
  pub its_marks : marks b xs ≡ ms
  pub high_parts : parts b xs ≡ hs
  pub narrow : Narrow (b + r) xs

module _ (b r : ℕ) where
  woven_low :
      {ls ms hs xs : List ℕ} (x l : ℕ) → x ≡ l → l < 2 ^ b → Woven b r ls ms hs xs
      → Woven b r (l ∷ ls) (0 ∷ ms) hs (x ∷ xs)
  woven_low x l e small w =
      let none : marked b x ≡ false = lt-leb (2 ^ b) x (omega arith) in
      let more : 2 ^ b ≤ 2 ^ (b + r) = pow_mono (omega arith) in
      let last : x % 2 ^ b ≡ l = ap (λ n. n % 2 ^ b) e ∙ mod-eq_of_lt small in
      record {
        low_parts = λ i. last i ∷ w.low_parts i;
        its_marks = rw none (ap (λ ms. 0 ∷ ms) w.its_marks);
        high_parts = rw none w.high_parts;
        narrow = (omega arith, w.narrow);
      }

  woven_high :
      {ls ms hs xs : List ℕ} (x l h : ℕ) → x ≡ h * 2 ^ b + l → l < 2 ^ b → 0 < h → h < 2 ^ r → Woven b r ls ms hs xs
      → Woven b r (l ∷ ls) (1 ∷ ms) (h ∷ hs) (x ∷ xs)
  woven_high x l h e small positive narrow w =
      let one_more : 1 * 2 ^ b ≤ h * 2 ^ b = mul-le-mul_right (2 ^ b) positive in
      let some : marked b x ≡ true = le-leb (2 ^ b) x (omega arith) in
      let last : x % 2 ^ b ≡ l = ap (λ n. n % 2 ^ b) e ∙ low h b small in
      let first : x / 2 ^ b ≡ h = ap (λ n. n / 2 ^ b) e ∙ high h b small in
      record {
        low_parts = λ i. last i ∷ w.low_parts i;
        its_marks = rw some (ap (λ ms. 1 ∷ ms) w.its_marks);
        high_parts = rw some (λ i. first i ∷ w.high_parts i);
        narrow = (omega (arith, digits_lt narrow small, pow-add 2 b r), w.narrow);
      }

  pub weave_woven :
      (ls ms hs : List ℕ) → Narrow b ls → Narrow 1 ms → length ls ≡ length ms → length hs ≡ sum ms
      → AllByRecursion (λ h. 0 < h) hs → Narrow r hs → Woven b r ls ms hs (weave b ls ms hs)
  unfolding weave
  weave_woven [] [] [] nl nm same count positive nh = record { low_parts = refl; its_marks = refl; high_parts = refl; narrow = tt }
  weave_woven [] [] (h ∷ hs) nl nm same count positive nh = absurd (omega arith)
  weave_woven [] (m ∷ ms) hs nl nm same count positive nh = absurd (omega arith)
  weave_woven (l ∷ ls) [] hs nl nm same count positive nh = absurd (omega arith)
  weave_woven (l ∷ ls) (zero ∷ ms) hs nl nm same count positive nh =
      woven_low (l + 2 ^ b * (0 * slice_index hs 0)) l (omega arith) nl.0
      (weave_woven ls ms hs nl.1 nm.1 (omega arith) (count ∙ omega (arith, sum_by-cons (λ x. x) 0 ms)) positive nh)
  weave_woven (l ∷ ls) (suc zero ∷ ms) [] nl nm same count positive nh = absurd (omega (arith, sum_by-cons (λ x. x) 1 ms))
  weave_woven (l ∷ ls) (suc zero ∷ ms) (h ∷ hs) nl nm same count positive nh =
      woven_high (l + 2 ^ b * (1 * h)) l h (omega arith) nl.0 positive.0 nh.0
      (weave_woven ls ms hs nl.1 nm.1 (omega arith) (omega (arith, sum_by-cons (λ x. x) 1 ms)) positive.1 nh.1)
  weave_woven (l ∷ ls) (suc (suc m) ∷ ms) hs nl nm same count positive nh = absurd (omega (arith, nm.0))

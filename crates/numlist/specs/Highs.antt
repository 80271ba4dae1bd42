-- High parts: how many, how large, and those of high parts. Assumes nothing.
use Rattle.std.specs.Prelude.{◌≡◌, ℕ, zero, suc, ◌+◌, ◌*◌, ◌/◌, ◌^◌, ◌<◌, ◌≤◌, true, false, cond, List, [], ◌∷◌, length, sum, filter, nat_le, refl}
use Rattle.std.proofs.Common.{sym, ap, ◌∙◌, inl, inr, mod-lt, add_comm, zero-add, le-div_iff_mul-le, arith, lit<, pow_pos, pow-add, pow_mono, shr_lt, shr-shr}
use Rattle.std.proofs.lemmas.List.{length-map}
use Rattle.std.specs.List.{AllByRecursion}
use Rattle.std.proofs.lemmas.Nat.{le-div}
use Rattle.std.proofs.ByRecursion.{All-map, all_kept_by, All-weaker, kept_by_passes}
use Rattle.std.proofs.lemmas.List.Sums.{sum-map, length-filter}
use Rattle.std.proofs.lemmas.Bool.{cases_Bool, cond_both, leb-true, leb-false, lt-leb}
use Rattle.std.proofs.lemmas.Bool.Decides.{nat_tests}
use Rattle.bits.specs.Packing.{Narrow}
use Rattle.numlist.specs.Parts.{lows, marked, marks, parts, above}

module _ (b : ℕ) where
  pub sum_marks : (xs : List ℕ) → sum (marks b xs) ≡ length (parts b xs)
  sum_marks xs =
      sum-map (λ x. cond (marked b x) 1 0) xs
      ∙ sym (length-filter (marked b) xs)
      ∙ sym (length-map (filter (marked b) xs) (λ x. x / 2 ^ b))

  pub narrow_lows : (xs : List ℕ) → Narrow b (lows b xs)
  narrow_lows [] = tt
  narrow_lows (x ∷ xs) = (mod-lt x (pow_pos b), narrow_lows xs)

  pub narrow_marks : (xs : List ℕ) → Narrow 1 (marks b xs)
  narrow_marks [] = tt
  narrow_marks (x ∷ xs) = (cond_both (marked b x) 1 0 (λ n. n < 2 ^ 1) (λ _. lit< tt) (λ _. lit< tt), narrow_marks xs)

  pub narrow_parts : (r : ℕ) (xs : List ℕ) → Narrow (b + r) xs → Narrow r (parts b xs)
  narrow_parts r xs narrow =
      let high : (x : ℕ) → x < 2 ^ (b + r) → x / 2 ^ b < 2 ^ r = λ x h. shr_lt r b (rw (add_comm b r) at h) in
      All-map (λ h. h < 2 ^ r) (λ x. x / 2 ^ b) (filter (marked b) xs)
      (all_kept_by (marked b) (λ x. x / 2 ^ b < 2 ^ r) xs (All-weaker (λ x. x < 2 ^ (b + r)) (λ x. x / 2 ^ b < 2 ^ r) high xs narrow))

  pub positive_parts : (xs : List ℕ) → AllByRecursion (λ h. 0 < h) (parts b xs)
  positive_parts xs =
      let high : (x : ℕ) → marked b x ≡ true → 0 < x / 2 ^ b =
      λ x e. let h = leb-true (2 ^ b) x e in le-div 1 x (2 ^ b) (pow_pos b) (omega arith)
      in
      All-map (λ h. 0 < h) (λ x. x / 2 ^ b) (filter (marked b) xs)
      (All-weaker (λ x. marked b x ≡ true) (λ x. 0 < x / 2 ^ b) high (filter (marked b) xs) (kept_by_passes (marked b) xs))

same_test : (a n c m : ℕ) → (a ≤ n → c ≤ m) → (c ≤ m → a ≤ n) → nat_le a n ≡ nat_le c m
same_test a n c m there back = grind (arith, nat_tests)

module _ (b k : ℕ) where
  marked_high : (x : ℕ) → marked b (x / 2 ^ k) ≡ marked (k + b) x
  marked_high x =
      let both = le-div_iff_mul-le {x = 2 ^ b} {y = x} (pow_pos k) in
      let bits : 2 ^ b * 2 ^ k ≡ 2 ^ (k + b) = omega (arith, pow-add 2 k b) in
      same_test (2 ^ b) (x / 2 ^ k) (2 ^ (k + b)) x (λ h. rw bits at (both.0 h)) (λ h. both.1 (rw (sym bits) at h))

  marked_higher : (x : ℕ) → marked k x ≡ false → marked (k + b) x ≡ false
  marked_higher x e =
      let more : 2 ^ k ≤ 2 ^ (k + b) = pow_mono (omega arith) in
      lt-leb (2 ^ (k + b)) x (omega (arith, leb-false (2 ^ k) x e))

  -- the high parts of high parts
  pub parts_parts : (xs : List ℕ) → parts b (parts k xs) ≡ parts (k + b) xs
  parts_parts [] = refl
  parts_parts (x ∷ xs) =
      elim (cases_Bool (marked k x)) [
        | inl e ↦ elim (cases_Bool (marked (k + b) x)) [
          | inl f ↦ rw (e, marked_high x, f) (λ i. shr-shr x k b i ∷ parts_parts xs i)
          | inr f ↦ rw (e, marked_high x, f) (parts_parts xs)
        ]
        | inr e ↦ rw (e, marked_higher x e) (parts_parts xs)
      ]

above-some : (k : ℕ) (xs : List ℕ) → 1 ≤ k → above k xs ≡ parts k xs
above-some zero xs h = absurd (omega arith)
above-some (suc k) xs h = refl

-- the high parts of the numbers that a list k bits up has
pub parts-above : (b k : ℕ) (xs : List ℕ) → 1 ≤ b → parts b (above k xs) ≡ above (k + b) xs
parts-above b zero xs h = ap (λ n. parts n xs) (sym (zero-add b)) ∙ sym (above-some (0 + b) xs (omega arith))
parts-above b (suc k) xs h = parts_parts b (suc k) xs ∙ sym (above-some (suc k + b) xs (omega arith))

-- How many elements of a list pass a test, and what lists with the same elements share. Assumes nothing.
use Rattle.std.proofs.Common.{◌≡◌, ℕ, ◌+◌, ◌<◌, Bool, true, false, cond, not, List, [], ◌∷◌, ◌++◌, length, count_by, sym, refl, ap, ◌∙◌, ⊎_elim, arith}
use Rattle.std.specs.List.{AllByRecursion}
use Rattle.std.proofs.ByRecursion.{All-weaker}
use Rattle.std.proofs.lemmas.List.Sums.{sum_by-cons, sum_by-append}
use Rattle.std.proofs.lemmas.Bool.{cases_Bool, cond-true, cond-false, not-false, not_from_true, not_from_false}
use Rattle.select.specs.Selections.{SameElements}

-- 1 where a test is passed
abbrev pub tick : Bool → ℕ
tick b = cond b 1 0

module _ {E : Type 0} (p : E → Bool) where
  pub count-cons : (x : E) (xs : List E) → count_by p (x ∷ xs) ≡ tick (p x) + count_by p xs
  count-cons x xs = sum_by-cons (λ e. tick (p e)) x xs

  pub count-append : (left right : List E) → count_by p (left ++ right) ≡ count_by p left + count_by p right
  count-append left right = sum_by-append (λ e. tick (p e)) left right

  pub count-parts : (left : List E) (cut : E) (right : List E) → count_by p (left ++ cut ∷ right) ≡ count_by p left + (tick (p cut) + count_by p right)
  count-parts left cut right =
      count-append left (cut ∷ right) ∙ ap (λ n. count_by p left + n) (count-cons cut right)

  -- none passes
  pub count_none : (xs : List E) → AllByRecursion (λ e. p e ≡ false) xs → count_by p xs ≡ 0
  count_none [] none = refl
  count_none (x ∷ xs) none =
      omega (arith, count-cons x xs, cond-false {A = ℕ} (p x) 1 0 none.0, count_none xs none.1)

  pub none_from_count : (xs : List E) → count_by p xs ≡ 0 → AllByRecursion (λ e. p e ≡ false) xs
  none_from_count [] zero = tt
  none_from_count (x ∷ xs) zero = (⊎_elim passes (λ no. no) (cases_Bool (p x)), none_from_count xs (omega (arith, count-cons x xs)))
    where
      passes : p x ≡ true → p x ≡ false
      passes is = absurd (omega (arith, count-cons x xs, cond-true {A = ℕ} (p x) 1 0 is))

  -- all pass
  pub count-all : (xs : List E) → AllByRecursion (λ e. p e ≡ true) xs → count_by p xs ≡ length xs
  count-all [] all = refl
  count-all (x ∷ xs) all =
      omega (arith, count-cons x xs, cond-true {A = ℕ} (p x) 1 0 all.0, count-all xs all.1)

  -- each element passes a test or fails it
  pub count-both : (xs : List E) → count_by p xs + count_by (λ e. not (p e)) xs ≡ length xs
  count-both [] = refl
  count-both (x ∷ xs) = ⊎_elim (passes (count-both xs)) (fails (count-both xs)) (cases_Bool (p x))
    where
      here : count_by (λ e. not (p e)) (x ∷ xs) ≡ tick (not (p x)) + count_by (λ e. not (p e)) xs
      here = sum_by-cons (λ e. tick (not (p e))) x xs

      passes : count_by p xs + count_by (λ e. not (p e)) xs ≡ length xs → p x ≡ true → count_by p (x ∷ xs) + count_by (λ e. not (p e)) (x ∷ xs) ≡ length (x ∷ xs)
      passes rest is = omega (arith, here, count-cons x xs, cond-true {A = ℕ} (p x) 1 0 is, cond-false {A = ℕ} (not (p x)) 1 0 (not_from_true (p x) is))

      fails : count_by p xs + count_by (λ e. not (p e)) xs ≡ length xs → p x ≡ false → count_by p (x ∷ xs) + count_by (λ e. not (p e)) (x ∷ xs) ≡ length (x ∷ xs)
      fails rest is = omega (arith, here, count-cons x xs, cond-false {A = ℕ} (p x) 1 0 is, cond-true {A = ℕ} (not (p x)) 1 0 (not_from_false (p x) is))

-- tests that agree on each element of a list count the same
pub count_same : {E : Type 0} (p q : E → Bool) (xs : List E) → AllByRecursion (λ e. p e ≡ q e) xs → count_by p xs ≡ count_by q xs
count_same p q [] same = refl
count_same p q (x ∷ xs) same =
    count-cons p x xs ∙ ap (λ b. tick b + count_by p xs) same.0 ∙ ap (λ n. tick (q x) + n) (count_same p q xs same.1) ∙ sym (count-cons q x xs)

-- lists with the same elements are equally long
pub same_length : {E : Type 0} (xs ys : List E) → SameElements xs ys → length xs ≡ length ys
same_length {E} xs ys same = sym (all xs) ∙ same (λ e. true) ∙ all ys
  where
    every : (zs : List E) → AllByRecursion (λ e. true ≡ true) zs
    every [] = tt
    every (z ∷ zs) = (refl, every zs)

    all : (zs : List E) → count_by (λ e. true) zs ≡ length zs
    all zs = count-all (λ e. true) zs (every zs)

-- what no element of a list passes, none of the same elements passes
pub same_none : {E : Type 0} (p : E → Bool) (xs ys : List E) → SameElements xs ys → AllByRecursion (λ e. p e ≡ false) xs → AllByRecursion (λ e. p e ≡ false) ys
same_none p xs ys same none = none_from_count p ys (sym (same p) ∙ count_none p xs none)

-- what every element of a list passes, every one of the same elements passes
pub same-all : {E : Type 0} (p : E → Bool) (xs ys : List E) → SameElements xs ys → AllByRecursion (λ e. p e ≡ true) xs → AllByRecursion (λ e. p e ≡ true) ys
same-all p xs ys same all =
    All-weaker _ _ (λ e. not-false (p e)) ys (same_none (λ e. not (p e)) xs ys same (All-weaker _ _ (λ e. not_from_true (p e)) xs all))

-- a test that is passed at all is passed at some place
pub record Found {E : Type 0} (p : E → Bool) (xs : List E) : Type 0 where
  pub left : List E
  pub here : E
  pub right : List E
  pub whole : xs ≡ left ++ here ∷ right
  pub passes : p here ≡ true

pub found : {E : Type 0} (p : E → Bool) (xs : List E) → 0 < count_by p xs → Found p xs
found p [] some = absurd (omega arith)
found {E} p (x ∷ xs) some = ⊎_elim at_once (later (found p xs)) (cases_Bool (p x))
  where
    at_once : p x ≡ true → Found p (x ∷ xs)
    at_once is = record { left = []; here = x; right = xs; whole = refl; passes = is }

    later : (0 < count_by p xs → Found p xs) → p x ≡ false → Found p (x ∷ xs)
    later rest is =
        let f = rest (omega (arith, count-cons p x xs, cond-false {A = ℕ} (p x) 1 0 is)) in
        record { left = x ∷ f.left; here = f.here; right = f.right; whole = ap (λ l. x ∷ l) f.whole; passes = f.passes }

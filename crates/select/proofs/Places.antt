-- The places of a list of which a part, the n elements from a on, was written again. Assumes nothing.
use Rattle.std.proofs.Common.{◌≡◌, ℕ, ◌+◌, ◌-◌, ◌<◌, ◌≤◌, List, ◌++◌, length, get_or, take, drop, subst, arith}
use borrow.Rule.Slice.PartMut.{mid_of, put_mid}
use Rattle.std.specs.List.Sorted.{IsPermutation}
use Rattle.std.proofs.lemmas.List.{places, take-append-drop}
use Rattle.std.proofs.lemmas.List.Sorted.{IsPermutation-append_left}

-- where the front of a list is put in another order, so is the list
pub permutation_front : {E : Type 0} (n : ℕ) (xs ys : List E) → IsPermutation (take n xs) ys → IsPermutation xs (ys ++ drop n xs)
permutation_front n xs ys kept =
    subst (λ zs. IsPermutation zs (ys ++ drop n xs)) (take-append-drop n xs) (IsPermutation-append_left (drop n xs) (take n xs) ys kept)

module _ {E : Type 0} (a n : ℕ) (xs : List E) (within : a + n ≤ length xs) where
  -- the part as it was
  pub length-mid : length (mid_of a n xs) ≡ n
  length-mid = grind (arith, places)

  pub get_or-mid : (k : ℕ) (d : E) → k < n → get_or (mid_of a n xs) k d ≡ get_or xs (a + k) d
  get_or-mid k d h = grind (arith, places)

  module _ (ys : List E) (long : length ys ≡ n) where
    pub length_put : length (put_mid a n xs ys) ≡ length xs
    length_put = grind (arith, places)

    -- in front of the part, in it and behind it
    pub get_or-put_below : (k : ℕ) (d : E) → k < a → get_or (put_mid a n xs ys) k d ≡ get_or xs k d
    get_or-put_below k d h = grind (arith, places)

    pub get_or-put_inside : (k : ℕ) (d : E) → a ≤ k → k < a + n → get_or (put_mid a n xs ys) k d ≡ get_or ys (k - a) d
    get_or-put_inside k d l h = grind (arith, places)

    pub get_or-put_above : (k : ℕ) (d : E) → a + n ≤ k → get_or (put_mid a n xs ys) k d ≡ get_or xs k d
    get_or-put_above k d h = grind (arith, places)

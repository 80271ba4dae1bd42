-- What selection leaves.
use Rattle.std.specs.Prelude.{◌≡◌, ℕ, ◌<◌, ◌≤◌, Bool, false, List, length, count_by, slice_index_or}

-- the same elements, each as often: whatever is asked of an element, as many of both lists have it
abbrev pub SameElements : {E : Type 0} → List E → List E → Type 0
SameElements {E} xs ys = (test : E → Bool) → count_by test xs ≡ count_by test ys

-- no element left of place at is greater than the one there, and none right of it is smaller
pub record Settled {E : Type 0} (before : E → E → Bool) (xs : List E) (at : ℕ) : Type 0 where
  pub left : (k : ℕ) (d : E) → k < at → before (slice_index_or xs at d) (slice_index_or xs k d) ≡ false
  pub right : (k : ℕ) (d : E) → at < k → k < length xs → before (slice_index_or xs k d) (slice_index_or xs at d) ≡ false

-- selection keeps the elements and settles the place; past the end it leaves all as it was
pub record Selected {E : Type 0} (before : E → E → Bool) (xs : List E) (at : ℕ) (ys : List E) : Type 0 where
  pub kept : SameElements xs ys
  pub long : length ys ≡ length xs
  pub settled : at < length xs → Settled before ys at
  pub left : length xs ≤ at → ys ≡ xs

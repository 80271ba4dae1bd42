-- How the inner steps of selection divide a slice.
use Rattle.std.specs.Prelude.{◌≡◌, ℕ, ◌<◌, ◌≤◌, Bool, true, false, List, length, slice_index_or}
use Rattle.std.specs.List.{AllWithin}

-- partition of the first `next` elements: those that pass stand in front of the border, and the others from it on
pub record Parted {E : Type 0} (answers : E → Bool → Type 0) (next border : ℕ) (xs : List E) : Type 0 where
  pub to : border ≤ next
  pub passed : AllWithin (λ e. answers e true) xs 0 border
  pub failed : AllWithin (λ e. answers e false) xs border next

-- around the element at place middle, the pivot: those in front of it are before it, and none behind it is
pub record Halved {E : Type 0} (before : E → E → Bool) (middle : ℕ) (xs : List E) : Type 0 where
  pub inside : middle < length xs
  pub smaller : (k : ℕ) (d : E) → k < middle → before (slice_index_or xs k d) (slice_index_or xs middle d) ≡ true
  pub others : (k : ℕ) (d : E) → middle < k → k < length xs → before (slice_index_or xs k d) (slice_index_or xs middle d) ≡ false

-- no element in front of the border is greater than one from the border on
abbrev pub Divided : {E : Type 0} → (E → E → Bool) → ℕ → List E → Type 0
Divided {E} before border xs =
    (j k : ℕ) (d : E) → j < border → border ≤ k → k < length xs → before (slice_index_or xs k d) (slice_index_or xs j d) ≡ false

-- the element that order puts at place at is among the places from first up to last
pub record Narrowed {E : Type 0} (before : E → E → Bool) (at first last : ℕ) (xs : List E) : Type 0 where
  pub first_at : first ≤ at
  pub at_last : at < last
  pub inside : last ≤ length xs
  pub left : Divided before first xs
  pub right : Divided before last xs

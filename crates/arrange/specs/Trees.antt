-- The implicit Kd-tree: a list of elements in which each part has its cut in its middle.
use Rattle.std.specs.Prelude.{◌≡◌, ℕ, ◌-◌, ◌/◌, Bool, false, not, ◌&&◌, List, [], ◌∷◌, ◌++◌, length, count_by}
use Rattle.std.specs.List.{AllByRecursion}
use Rattle.select.specs.Selections.{SameElements}
use Rattle.select.specs.Orders.{other}
use Rattle.select.specs.declared.element.Axis.{Axis}
use Rattle.select.specs.declared.element.Axis.TheVariants.{X}

-- the place of the middle of n elements: the whole part of (first + last) ÷ 2, where the first place is 0 and the last n - 1
abbrev pub middle : ℕ → ℕ
middle n = (n - 1) / 2

-- a list is arranged by an axis: it is empty, or the element in its middle has none greater to its left and none smaller to
-- its right, and both sides are arranged by the other axis
pub data Arranged {E : Type 0} (before : Axis → E → E → Bool) : Axis → List E → Type 0 where
  nothing : (axis : Axis) → Arranged before axis []
  split :
      (axis : Axis) (left : List E) (cut : E) (right : List E)
      → length left ≡ middle (length (left ++ cut ∷ right))
      → AllByRecursion (λ e. before axis cut e ≡ false) left
      → AllByRecursion (λ e. before axis e cut ≡ false) right
      → Arranged before (other axis) left
      → Arranged before (other axis) right
      → Arranged before axis (left ++ cut ∷ right)

-- to arrange a list is to keep its elements and leave it arranged
pub record Arranges {E : Type 0} (before : Axis → E → E → Bool) (axis : Axis) (xs ys : List E) : Type 0 where
  pub kept : SameElements xs ys
  pub long : length ys ≡ length xs
  pub arranged : Arranged before axis ys

-- neither of two elements is before the other, by x; by y it is the same, since both orders tell all elements apart
abbrev pub level : {E : Type 0} → (Axis → E → E → Bool) → E → E → Bool
level before e f = not (before X e f) && not (before X f e)

-- two lists have every element equally often
abbrev pub EquallyOften : {E : Type 0} → (Axis → E → E → Bool) → List E → List E → Type 0
EquallyOften {E} before xs ys = (e : E) → count_by (level before e) xs ≡ count_by (level before e) ys

-- there is one arrangement: two lists that have every element equally often and are arranged by the same axis are the same
abbrev pub OneArrangement : {E : Type 0} → (Axis → E → E → Bool) → Type 0
OneArrangement {E} before =
    (axis : Axis) (xs ys : List E) → EquallyOften before xs ys → Arranged before axis xs → Arranged before axis ys → xs ≡ ys

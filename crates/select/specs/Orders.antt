-- The two orders of an element.
use Rattle.std.specs.Prelude.{◌≡◌, Bool, true, false}
use Rattle.select.specs.declared.element.Axis.{Axis}
use Rattle.select.specs.declared.element.Axis.TheVariants.{X, Y}

-- the other axis
abbrev pub other : Axis → Axis
other X = Y
other Y = X

-- the order of each axis is total and strict, and two elements of which neither is before the other are the same
pub record TotalOrders {E : Type 0} (before : Axis → E → E → Bool) : Type 0 where
  pub irreflexive : (axis : Axis) (e : E) → before axis e e ≡ false
  pub transitive : (axis : Axis) (e f g : E) → before axis e f ≡ true → before axis f g ≡ true → before axis e g ≡ true
  pub same : (axis : Axis) (e f : E) → before axis e f ≡ false → before axis f e ≡ false → e ≡ f

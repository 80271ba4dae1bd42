-- A list of one element many times is arranged as it is. Assumes nothing.
use Rattle.std.proofs.Common.{◌≡◌, ℕ, zero, suc, ◌+◌, ◌<◌, ◌≤◌, Bool, false, List, [], ◌∷◌, length, get_or, take, drop, sym, refl, ◌∙◌, subst, ⊎_elim, arith, length-drop}
use Rattle.std.specs.List.{All}
use Rattle.std.proofs.lemmas.List.{length-take-le, get_or-take, get_or-drop}
use Rattle.std.proofs.lemmas.Bool.{cases_lt}
use Rattle.select.specs.Orders.{TotalOrders, other}
use Rattle.select.specs.Selections.{Selected}
use Rattle.select.specs.declared.element.Axis.{Axis}
use Rattle.arrange.specs.Trees.{Arranges, middle}
use Rattle.arrange.proofs.Cuts.{at_place}
use Rattle.arrange.proofs.Sides.{short_arranges, cut_arranges}

module _ {E : Type 0} (before : Axis → E → E → Bool) (total : TotalOrders before) (x : E) where
  none_before : (axis : Axis) (e f : E) → e ≡ x → f ≡ x → before axis e f ≡ false
  none_before axis e f p q = (λ i. before axis (p i) (q i)) ∙ total.irreflexive axis x

  flat_selected : (axis : Axis) (xs : List E) (m : ℕ) → All (λ e. e ≡ x) xs → Selected (before axis) xs m xs
  flat_selected axis xs m flat = record {
    kept = λ test. refl;
    long = refl;
    settled = λ inside. record {
      left = λ k d h. none_before axis _ _ (flat m d inside) (flat k d (omega arith));
      right = λ k d h within. none_before axis _ _ (flat k d within) (flat m d inside);
    };
    left = λ past. refl;
  }

  -- both sides of a flat list are flat; the first number says how often sides may have sides
  flat_to : (n : ℕ) (axis : Axis) (xs : List E) → length xs ≤ n → All (λ e. e ≡ x) xs → Arranges before axis xs xs
  flat_to zero axis xs short flat = short_arranges before axis xs (omega arith)
  flat_to (suc n) axis xs short flat =
      ⊎_elim
      (λ few. short_arranges before axis xs few)
      (λ some.
      let m = middle (length xs) in
      let inside : m < length xs = omega arith in
      let left_long = length-take-le m xs (omega arith) in
      let right-long = length-drop (m + 1) xs in
      subst (Arranges before axis xs) (sym (at_place xs m x inside))
      (cut_arranges before axis xs xs (take m xs) (drop (m + 1) xs) m x refl inside (flat_selected axis xs m flat)
      (flat_to n (other axis) (take m xs) (omega arith) (λ k d h. get_or-take m xs k d (omega arith) ∙ flat k d (omega arith)))
      (flat_to n (other axis) (drop (m + 1) xs) (omega arith) (λ k d h. get_or-drop (m + 1) xs k d ∙ flat (m + 1 + k) d (omega arith)))))
      (cases_lt (length xs) 2)

-- a list each of whose elements is the first one
pub flat_arranges : {E : Type 0} (before : Axis → E → E → Bool) (axis : Axis) (xs : List E) → TotalOrders before → ((d : E) → All (λ e. e ≡ get_or xs 0 d) xs) → Arranges before axis xs xs
flat_arranges before axis [] total flat = short_arranges before axis [] (omega arith)
flat_arranges before axis (x ∷ xs) total flat = flat_to before total x (length (x ∷ xs)) axis (x ∷ xs) (omega arith) (flat x)

-- An arranged list taken apart at its middle, and put together again. Assumes nothing.
use Rattle.std.proofs.Common.{◌≡◌, ℕ, ◌+◌, ◌<◌, Bool, false, List, [], ◌∷◌, ◌++◌, length, get_or, take, drop, sym, refl, ap, ◌∙◌, subst, arith}
use Rattle.std.specs.List.{AllByRecursion}
use Rattle.std.proofs.lemmas.List.{take_at, drop_at, get_or_at, drop_more, take-append-drop, length-take-le, drop-drop}
use Rattle.select.specs.Orders.{other}
use Rattle.select.specs.declared.element.Axis.{Axis}
use Rattle.arrange.specs.Trees.{Arranged, nothing, split, middle}

-- the middle element of a list that is not empty, with the two sides
pub record Cut {E : Type 0} (before : Axis → E → E → Bool) (axis : Axis) (xs : List E) : Type 0 where
  pub left : List E
  pub cut : E
  pub right : List E
  pub whole : xs ≡ left ++ cut ∷ right
  pub centred : length left ≡ middle (length xs)
  pub lower : AllByRecursion (λ e. before axis cut e ≡ false) left
  pub upper : AllByRecursion (λ e. before axis e cut ≡ false) right
  pub low_side : Arranged before (other axis) left
  pub high_side : Arranged before (other axis) right

-- the same by places; d is read past the end, which never happens
pub record Opened {E : Type 0} (before : Axis → E → E → Bool) (axis : Axis) (xs : List E) (d : E) : Type 0 where
  pub whole : xs ≡ take (middle (length xs)) xs ++ get_or xs (middle (length xs)) d ∷ drop (middle (length xs) + 1) xs
  pub lower : AllByRecursion (λ e. before axis (get_or xs (middle (length xs)) d) e ≡ false) (take (middle (length xs)) xs)
  pub upper : AllByRecursion (λ e. before axis e (get_or xs (middle (length xs)) d) ≡ false) (drop (middle (length xs) + 1) xs)
  pub low_side : Arranged before (other axis) (take (middle (length xs)) xs)
  pub high_side : Arranged before (other axis) (drop (middle (length xs) + 1) xs)

-- a list at one of its places
pub at_place : {E : Type 0} (xs : List E) (k : ℕ) (d : E) → k < length xs → xs ≡ take k xs ++ get_or xs k d ∷ drop (k + 1) xs
at_place xs k d inside = sym (take-append-drop k xs) ∙ ap (λ ys. take k xs ++ ys) (drop_more xs k d inside)

module _ {E : Type 0} {before : Axis → E → E → Bool} where
  pub cut_arranged : {axis : Axis} {xs : List E} → Arranged before axis xs → 0 < length xs → Cut before axis xs
  cut_arranged (nothing axis) some = absurd (omega arith)
  cut_arranged (split axis left cut right centred lower upper low_side high_side) some =
      record { left = left; cut = cut; right = right; whole = refl; centred = centred; lower = lower; upper = upper; low_side = low_side; high_side = high_side }

  pub arranged_cut : {axis : Axis} {xs : List E} → Cut before axis xs → Arranged before axis xs
  arranged_cut {axis} {xs} c =
      let long = ap (λ ys. middle (length ys)) c.whole in
      subst (Arranged before axis) (sym c.whole) (split axis c.left c.cut c.right (c.centred ∙ long) c.lower c.upper c.low_side c.high_side)

  -- an empty list and a single element are arranged
  pub arranged_short : (axis : Axis) (xs : List E) → length xs < 2 → Arranged before axis xs
  arranged_short axis [] short = nothing axis
  arranged_short axis (x ∷ []) short = split axis [] x [] refl tt tt (nothing (other axis)) (nothing (other axis))
  arranged_short axis (x ∷ y ∷ ys) short = absurd (omega arith)

  pub opened : {axis : Axis} {xs : List E} → Arranged before axis xs → (d : E) → 0 < length xs → Opened before axis xs d
  opened {axis} {xs} a d some = record {
    whole = at_place xs (middle (length xs)) d (omega arith);
    lower = subst (λ e. AllByRecursion (λ f. before axis e f ≡ false) (take (middle (length xs)) xs)) cut-is (subst (AllByRecursion (λ f. before axis c.cut f ≡ false)) left_is c.lower);
    upper = subst (λ e. AllByRecursion (λ f. before axis f e ≡ false) (drop (middle (length xs) + 1) xs)) cut-is (subst (AllByRecursion (λ f. before axis f c.cut ≡ false)) right_is c.upper);
    low_side = subst (Arranged before (other axis)) left_is c.low_side;
    high_side = subst (Arranged before (other axis)) right_is c.high_side;
  }
    where
      c : Cut before axis xs
      c = cut_arranged a some

      left_is : c.left ≡ take (middle (length xs)) xs
      left_is = sym (ap (take (middle (length xs))) c.whole ∙ take_at c.left (c.cut ∷ c.right) (middle (length xs)) c.centred)

      rest_is : drop (middle (length xs)) xs ≡ c.cut ∷ c.right
      rest_is = ap (drop (middle (length xs))) c.whole ∙ drop_at c.left (c.cut ∷ c.right) (middle (length xs)) c.centred

      cut-is : c.cut ≡ get_or xs (middle (length xs)) d
      cut-is = sym (ap (λ ys. get_or ys (middle (length xs)) d) c.whole ∙ get_or_at c.left c.cut c.right d (middle (length xs)) c.centred)

      right_is : c.right ≡ drop (middle (length xs) + 1) xs
      right_is = sym (sym (drop-drop 1 (middle (length xs)) xs) ∙ ap (drop 1) rest_is)

  pub closed : {axis : Axis} {xs : List E} (d : E) → 0 < length xs → Opened before axis xs d → Arranged before axis xs
  closed {axis} {xs} d some o = arranged_cut (record {
    left = take (middle (length xs)) xs;
    cut = get_or xs (middle (length xs)) d;
    right = drop (middle (length xs) + 1) xs;
    whole = o.whole;
    centred = length-take-le (middle (length xs)) xs (omega arith);
    lower = o.lower;
    upper = o.upper;
    low_side = o.low_side;
    high_side = o.high_side;
  })

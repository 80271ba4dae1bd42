-- What follows from two total orders of an element: level elements are the same, and counts of each element tell all counts.
-- Assumes nothing.
use Rattle.std.proofs.Common.{◌≡◌, ℕ, ◌<◌, Bool, true, false, not, List, [], ◌∷◌, ◌++◌, count_by, sym, refl, ap, ◌∙◌, ⊎_elim, arith}
use Rattle.std.proofs.lemmas.Bool.{cases_Bool, cond-true, and_parts, and_from, both_ways, not-true, not_from_false}
use Rattle.select.specs.Orders.{TotalOrders}
use Rattle.select.specs.Selections.{SameElements}
use Rattle.select.specs.declared.element.Axis.{Axis}
use Rattle.select.specs.declared.element.Axis.TheVariants.{X}
use Rattle.arrange.specs.Trees.{level, EquallyOften}
use Rattle.arrange.proofs.Counted.{Found, found, count-cons, count-append, count-parts}

module _ {E : Type 0} (before : Axis → E → E → Bool) (total : TotalOrders before) where
  -- what does not follow the lower of two elements is before the upper one
  pub before_upper : (axis : Axis) (e low high : E) → before axis low e ≡ false → before axis low high ≡ true → before axis e high ≡ true
  before_upper axis e low high after between = ⊎_elim below level_with (cases_Bool (before axis e low))
    where
      below : before axis e low ≡ true → before axis e high ≡ true
      below is = total.transitive axis e low high is between

      level_with : before axis e low ≡ false → before axis e high ≡ true
      level_with is = ap (λ f. before axis f high) (total.same axis e low is after) ∙ between

  level_self : (e : E) → level before e e ≡ true
  level_self e =
      let not_before = not_from_false (before X e e) (total.irreflexive X e) in
      and_from (not (before X e e)) (not (before X e e)) not_before not_before

  pub level_equal : (e f : E) → level before e f ≡ true → e ≡ f
  level_equal e f is =
      let parts = and_parts (not (before X e f)) (not (before X f e)) is in
      total.same X e f (not-true (before X e f) parts.0) (not-true (before X f e) parts.1)

  pub not_level : (e f : E) → level before e f ≡ false → e ≡ f → ⊥
  not_level e f is same = both_ways _ is (ap (λ g. level before g f) same ∙ level_self f)

  -- a list has its first element
  first_counted : (e : E) (es : List E) → 0 < count_by (level before e) (e ∷ es)
  first_counted e es = omega (arith, count-cons (level before e) e es, cond-true {A = ℕ} (level before e e) 1 0 (level_self e))

  -- the rest of a list, and another list without the same element, have every element equally often
  rest_often : (e : E) (es left right : List E) → EquallyOften before (e ∷ es) (left ++ e ∷ right) → EquallyOften before es (left ++ right)
  rest_often e es left right often = λ f.
      omega (arith, often f, count-cons (level before f) e es, count-parts (level before f) left e right, count-append (level before f) left right)

  -- lists that have every element equally often have the same elements
  pub same_from_often : (xs ys : List E) → EquallyOften before xs ys → SameElements xs ys
  same_from_often [] [] often = λ test. refl
  same_from_often [] (y ∷ ys) often = λ test. absurd (omega (arith, often y, first_counted y ys))
  same_from_often (x ∷ xs) ys often = λ test. one_more test (λ left right. same_from_often xs (left ++ right))
    where
      place : Found (level before x) ys
      place = found (level before x) ys (omega (arith, often x, first_counted x xs))

      whole : ys ≡ place.left ++ x ∷ place.right
      whole = place.whole ∙ ap (λ e. place.left ++ e ∷ place.right) (sym (level_equal x place.here place.passes))

      one_more : (test : E → Bool) → ((left right : List E) → EquallyOften before xs (left ++ right) → SameElements xs (left ++ right)) → count_by test (x ∷ xs) ≡ count_by test ys
      one_more test same =
          let often' : EquallyOften before (x ∷ xs) (place.left ++ x ∷ place.right) = λ e. often e ∙ ap (count_by (level before e)) whole in
          let rest = same place.left place.right (rest_often x xs place.left place.right often') test in
          omega (arith, rest, count-cons test x xs, ap (count_by test) whole, count-parts test place.left x place.right, count-append test place.left place.right)

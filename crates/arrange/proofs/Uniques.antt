-- There is one arrangement: the cut of a list is the element that order puts into the middle, so lists with the same elements
-- have the same cut and the same elements on each side. Assumes nothing.
use Rattle.std.proofs.Common.{◌≡◌, ℕ, ◌+◌, Bool, true, false, not, ◌&&◌, List, [], ◌∷◌, ◌++◌, Decides, count_by, sym, refl, ap, ◌∙◌, ⊎_elim, arith, length-append}
use Rattle.std.proofs.ByRecursion.{All-weaker}
use Rattle.std.proofs.lemmas.List.{nil_from_length}
use Rattle.std.proofs.lemmas.List.Sums.{count_by-le-length}
use Rattle.std.proofs.lemmas.Bool.{cases_Bool, cond-true, cond-false, and_left, and_right, not_from_true}
use Rattle.select.specs.Orders.{TotalOrders, other}
use Rattle.select.specs.Selections.{SameElements}
use Rattle.select.specs.declared.element.Axis.{Axis}
use Rattle.arrange.specs.Trees.{Arranged, nothing, split, Arranges, EquallyOften, OneArrangement, level, middle}
use Rattle.arrange.proofs.Counted.{tick, count-parts, count_none, count-all, count-both, count_same, same_length}
use Rattle.arrange.proofs.Totals.{before_upper, same_from_often}
use Rattle.arrange.proofs.Cuts.{Cut, cut_arranged}

and_true : (a b : Bool) → b ≡ true → a ≡ (a && b)
and_true true b is = sym is
and_true false b is = refl

module _ {E : Type 0} (before : Axis → E → E → Bool) (total : TotalOrders before) (axis : Axis) where
  count_cut : {xs : List E} (test : E → Bool) (c : Cut before axis xs) → count_by test xs ≡ count_by test c.left + (tick (test c.cut) + count_by test c.right)
  count_cut test c = ap (count_by test) c.whole ∙ count-parts test c.left c.cut c.right

  -- the cut of a list is not before that of another one with the same elements: too many elements would be before the latter
  cut_not_before : (xs ys : List E) (c : Cut before axis xs) (d : Cut before axis ys) → SameElements xs ys → before axis c.cut d.cut ≡ false
  cut_not_before xs ys c d same = ⊎_elim too_many (λ no. no) (cases_Bool (before axis c.cut d.cut))
    where
      too_many : before axis c.cut d.cut ≡ true → before axis c.cut d.cut ≡ false
      too_many is =
          let all = count-all (λ e. before axis e d.cut) c.left (All-weaker _ _ (λ e h. before_upper before total axis e c.cut d.cut h is) c.left c.lower) in
          let here = cond-true {A = ℕ} (before axis c.cut d.cut) 1 0 is in
          let there = cond-false {A = ℕ} (before axis d.cut d.cut) 1 0 (total.irreflexive axis d.cut) in
          let none = count_none (λ e. before axis e d.cut) d.right d.upper in
          let most = count_by-le-length (λ e. before axis e d.cut) d.left in
          let long = ap middle (same_length xs ys same) in
          absurd (omega (arith, all, here, there, none, most, c.centred, d.centred, long, same (λ e. before axis e d.cut), count_cut (λ e. before axis e d.cut) c, count_cut (λ e. before axis e d.cut) d))

  same-cut : (xs ys : List E) (c : Cut before axis xs) (d : Cut before axis ys) → SameElements xs ys → c.cut ≡ d.cut
  same-cut xs ys c d same =
      total.same axis c.cut d.cut (cut_not_before xs ys c d same) (cut_not_before ys xs d c (λ test. sym (same test)))

  -- what passes a test that the cut fails, and stands left of it, is what passes the test and is before the cut
  left_count : {xs : List E} (test : E → Bool) (c : Cut before axis xs) → test c.cut ≡ false → count_by test c.left ≡ count_by (λ e. test e && before axis e c.cut) xs
  left_count test c fails =
      let left = count_same test (λ e. test e && before axis e c.cut) c.left (All-weaker _ _ each c.left c.lower) in
      let here = cond-false {A = ℕ} (test c.cut && before axis c.cut c.cut) 1 0 (and_left (test c.cut) (before axis c.cut c.cut) fails) in
      let right = count_none (λ e. test e && before axis e c.cut) c.right (All-weaker _ _ (λ e h. and_right (test e) (before axis e c.cut) h) c.right c.upper) in
      omega (arith, left, here, right, count_cut (λ e. test e && before axis e c.cut) c)
    where
      each : (e : E) → before axis c.cut e ≡ false → test e ≡ (test e && before axis e c.cut)
      each e after = ⊎_elim (and_true (test e) (before axis e c.cut)) level_with (cases_Bool (before axis e c.cut))
        where
          level_with : before axis e c.cut ≡ false → test e ≡ (test e && before axis e c.cut)
          level_with is =
              let no = ap test (total.same axis e c.cut is after) ∙ fails in
              no ∙ sym (and_left (test e) (before axis e c.cut) no)

  module _ (xs ys : List E) (c : Cut before axis xs) (d : Cut before axis ys) (same : SameElements xs ys) where
    same_lefts_fails : (test : E → Bool) → test c.cut ≡ false → count_by test c.left ≡ count_by test d.left
    same_lefts_fails test fails =
        left_count test c fails
        ∙ same (λ e. test e && before axis e c.cut)
        ∙ ap (λ f. count_by (λ e. test e && before axis e f) ys) (same-cut xs ys c d same)
        ∙ sym (left_count test d (ap test (sym (same-cut xs ys c d same)) ∙ fails))

    same_lefts : SameElements c.left d.left
    same_lefts test = ⊎_elim passes (same_lefts_fails test) (cases_Bool (test c.cut))
      where
        passes : test c.cut ≡ true → count_by test c.left ≡ count_by test d.left
        passes is =
            let others = same_lefts_fails (λ e. not (test e)) (not_from_true (test c.cut) is) in
            omega (arith, others, count-both test c.left, count-both test d.left, c.centred, d.centred, ap middle (same_length xs ys same))

    same_rights : SameElements c.right d.right
    same_rights test =
        omega (arith, same test, same_lefts test, count_cut test c, count_cut test d, ap (λ e. tick (test e)) (same-cut xs ys c d same))

module _ {E : Type 0} (before : Axis → E → E → Bool) (total : TotalOrders before) where
  pub same_arranged : {axis : Axis} {xs : List E} → Arranged before axis xs → (ys : List E) → Arranged before axis ys → SameElements xs ys → xs ≡ ys
  same_arranged (nothing axis) ys b same = sym (nil_from_length ys (sym (same_length [] ys same)))
  same_arranged (split axis left cut right centred lower upper low_side high_side) ys b same =
      joined (same_arranged low_side) (same_arranged high_side)
    where
      c : Cut before axis (left ++ cut ∷ right)
      c = record { left = left; cut = cut; right = right; whole = refl; centred = centred; lower = lower; upper = upper; low_side = low_side; high_side = high_side }

      d : Cut before axis ys
      d = cut_arranged b (omega (arith, same_length (left ++ cut ∷ right) ys same, length-append left (cut ∷ right)))

      joined :
          ((zs : List E) → Arranged before (other axis) zs → SameElements left zs → left ≡ zs)
          → ((zs : List E) → Arranged before (other axis) zs → SameElements right zs → right ≡ zs)
          → left ++ cut ∷ right ≡ ys
      joined lefts rights =
          ap (λ l. l ++ cut ∷ right) (lefts d.left d.low_side (same_lefts before total axis (left ++ cut ∷ right) ys c d same))
          ∙ ap (λ e. d.left ++ e ∷ right) (same-cut before total axis (left ++ cut ∷ right) ys c d same)
          ∙ ap (λ r. d.left ++ d.cut ∷ r) (rights d.right d.high_side (same_rights before total axis (left ++ cut ∷ right) ys c d same))
          ∙ sym d.whole

  pub one_arrangement : OneArrangement before
  one_arrangement axis xs ys often a b = same_arranged a ys b (same_from_often before total xs ys often)

  -- two lists are equal once they are arranged, exactly where they have every element equally often
  pub trees_tell :
      {axis : Axis} {xs ys ps qs : List E} → Arranges before axis xs ps → Arranges before axis ys qs
      → (r : Bool) → Decides r (ps ≡ qs) → Decides r (EquallyOften before xs ys)
  trees_tell {axis} {xs} {ys} {ps} {qs} a b r tells = (λ is. often (tells.0 is), λ often. tells.1 (equal often))
    where
      often : ps ≡ qs → EquallyOften before xs ys
      often same e = a.kept (level before e) ∙ ap (count_by (level before e)) same ∙ sym (b.kept (level before e))

      equal : EquallyOften before xs ys → ps ≡ qs
      equal often = one_arrangement axis ps qs (λ e. sym (a.kept (level before e)) ∙ often e ∙ b.kept (level before e)) a.arranged b.arranged

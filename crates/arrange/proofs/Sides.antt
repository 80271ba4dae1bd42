-- A part whose middle is selected and whose sides are then arranged is arranged: by either axis. Assumes nothing.
use Rattle.std.proofs.Common.{◌≡◌, ℕ, ◌+◌, ◌-◌, ◌<◌, ◌≤◌, Bool, false, List, [], ◌∷◌, ◌++◌, length, get_or, take, drop, count_by, sym, refl, ap, ◌∙◌, subst, arith, length-drop}
use borrow.Rule.Slice.PartMut.{put_mid}
use Rattle.std.specs.List.{AllByRecursion}
use Rattle.std.proofs.ByRecursion.{All-from_get_or}
use Rattle.std.proofs.lemmas.List.{append-nil, append_assoc, length-take-le, length_push, take_at, take_rest, drop_all, drop_more, get_or-take, get_or-drop}
use Rattle.std.proofs.lemmas.Slice.{drop-append-drop}
use Rattle.select.specs.Selections.{SameElements, Selected}
use Rattle.select.specs.Orders.{other}
use Rattle.select.specs.declared.element.Axis.{Axis}
use Rattle.arrange.specs.Trees.{Arranges, middle}
use Rattle.arrange.proofs.Counted.{count-parts, same_length, same_none}
use Rattle.arrange.proofs.Cuts.{at_place, arranged_cut, arranged_short}

-- a part with at most one element stays as it is
pub short_arranges : {E : Type 0} (before : Axis → E → E → Bool) (axis : Axis) (xs : List E) → length xs < 2 → Arranges before axis xs xs
short_arranges before axis xs short =
    record { kept = λ test. refl; long = refl; arranged = arranged_short axis xs short }

-- some element of a list, to be read past the end, which never happens
any_of : {E : Type 0} (xs : List E) → 0 < length xs → E
any_of [] some = absurd (omega arith)
any_of (x ∷ xs) some = x

-- what the code leaves in ys when it writes back first the left side and then the right one
abbrev pub left_written : {E : Type 0} → List E → List E → ℕ → List E
left_written ys ls m = ls ++ drop m ys

abbrev pub both-written : {E : Type 0} → List E → List E → List E → ℕ → List E
both-written ys ls rs m =
    put_mid (m + 1) (length (left_written ys ls m) - (m + 1)) (left_written ys ls m) rs

module _ {E : Type 0} (ys ls : List E) (m : ℕ) (left_long : length ls ≡ m) where
  -- the right side is then still as it was
  pub right_side : take (length (left_written ys ls m) - (m + 1)) (drop (m + 1) (left_written ys ls m)) ≡ drop (m + 1) ys
  right_side = take_rest (left_written ys ls m) (m + 1) ∙ drop-append-drop m ys ls (m + 1) (omega arith) left_long

  front : (d : E) → m < length ys → take (m + 1) (left_written ys ls m) ≡ ls ++ get_or ys m d ∷ []
  front d inside =
      ap (λ zs. take (m + 1) (ls ++ zs)) (drop_more ys m d inside)
      ∙ ap (take (m + 1)) (sym (append_assoc ls (get_or ys m d ∷ []) (drop (m + 1) ys)))
      ∙ take_at (ls ++ get_or ys m d ∷ []) (drop (m + 1) ys) (m + 1) (omega (arith, length_push ls (get_or ys m d)))

  behind : drop (length (left_written ys ls m) - (m + 1)) (drop (m + 1) (left_written ys ls m)) ≡ []
  behind = drop_all (length (left_written ys ls m) - (m + 1)) (drop (m + 1) (left_written ys ls m)) (omega (arith, length-drop (m + 1) (left_written ys ls m)))

  pub joined : (rs : List E) (d : E) → m < length ys → both-written ys ls rs m ≡ ls ++ get_or ys m d ∷ rs
  joined rs d inside =
      ap (λ zs. take (m + 1) (left_written ys ls m) ++ (rs ++ zs)) behind
      ∙ ap (λ zs. take (m + 1) (left_written ys ls m) ++ zs) (append-nil rs)
      ∙ ap (λ zs. zs ++ rs) (front d inside)
      ∙ append_assoc ls (get_or ys m d ∷ []) rs

module _ {E : Type 0} (before : Axis → E → E → Bool) (axis : Axis) (xs ys ls rs : List E) (m : ℕ) (d : E) where
  -- arranging the sides keeps the cut a cut
  pub cut_arranges :
      m ≡ middle (length xs) → m < length xs → Selected (before axis) xs m ys
      → Arranges before (other axis) (take m ys) ls → Arranges before (other axis) (drop (m + 1) ys) rs
      → Arranges before axis xs (ls ++ get_or ys m d ∷ rs)
  cut_arranges centred inside selected left right = record {
    kept = kept;
    long = sym long;
    arranged = arranged_cut (record {
      left = ls;
      cut = get_or ys m d;
      right = rs;
      whole = refl;
      centred = left.long ∙ length-take-le m ys (omega (arith, selected.long)) ∙ centred ∙ ap middle long;
      lower = same_none (before axis (get_or ys m d)) (take m ys) ls left.kept lower;
      upper = same_none (λ e. before axis e (get_or ys m d)) (drop (m + 1) ys) rs right.kept upper;
      low_side = left.arranged;
      high_side = right.arranged;
    });
  }
    where
      kept : SameElements xs (ls ++ get_or ys m d ∷ rs)
      kept test =
          selected.kept test
          ∙ ap (count_by test) (at_place ys m d (omega (arith, selected.long)))
          ∙ count-parts test (take m ys) (get_or ys m d) (drop (m + 1) ys)
          ∙ omega (arith, left.kept test, right.kept test, count-parts test ls (get_or ys m d) rs)

      long : length xs ≡ length (ls ++ get_or ys m d ∷ rs)
      long = same_length xs (ls ++ get_or ys m d ∷ rs) kept

      lower : AllByRecursion (λ e. before axis (get_or ys m d) e ≡ false) (take m ys)
      lower =
          All-from_get_or (λ e. before axis (get_or ys m d) e ≡ false) (take m ys) d (λ k h.
          let in_left : k < m = omega (arith, length-take-le m ys (omega (arith, selected.long))) in
          ap (before axis (get_or ys m d)) (get_or-take m ys k d in_left) ∙ (selected.settled inside).left k d in_left)

      upper : AllByRecursion (λ e. before axis e (get_or ys m d) ≡ false) (drop (m + 1) ys)
      upper =
          All-from_get_or (λ e. before axis e (get_or ys m d) ≡ false) (drop (m + 1) ys) d (λ k h.
          ap (λ e. before axis e (get_or ys m d)) (get_or-drop (m + 1) ys k d)
          ∙ (selected.settled inside).right (m + 1 + k) d (omega arith) (omega (arith, length-drop (m + 1) ys)))

-- the same of the list as the code writes it
pub sides_arranged :
    {E : Type 0} (before : Axis → E → E → Bool) (axis side : Axis) (xs ys ls rs : List E) (m : ℕ)
    → 2 ≤ length xs → m ≡ middle (length xs) → Selected (before axis) xs m ys → side ≡ other axis
    → Arranges before side (take m ys) ls
    → Arranges before side (take (length (left_written ys ls m) - (m + 1)) (drop (m + 1) (left_written ys ls m))) rs
    → Arranges before axis xs (both-written ys ls rs m)
sides_arranged {E} before axis side xs ys ls rs m some centred selected crossed left right =
    subst (Arranges before axis xs) (sym (joined ys ls m left_long rs d inside)) (cut_arranges before axis xs ys ls rs m d centred (omega arith) selected left_arranged right_arranged)
  where
    inside : m < length ys
    inside = omega (arith, selected.long)

    d : E
    d = any_of ys (omega arith)

    left_long : length ls ≡ m
    left_long = left.long ∙ length-take-le m ys (omega arith)

    left_arranged : Arranges before (other axis) (take m ys) ls
    left_arranged = subst (λ a. Arranges before a (take m ys) ls) crossed left

    right_arranged : Arranges before (other axis) (drop (m + 1) ys) rs
    right_arranged =
        subst (λ a. Arranges before a (drop (m + 1) ys) rs) crossed (subst (λ zs. Arranges before side zs rs) (right_side ys ls m left_long) right)

-- What is left is a side of the pivot, or the place of an element level with it. Assumes nothing.
use Rattle.std.proofs.Common.{◌≡◌, ℕ, ◌+◌, ◌-◌, ◌<◌, ◌≤◌, Bool, true, false, not, List, length, get_or, sym, ◌∙◌, ⊎_elim, arith}
use borrow.Rule.Slice.PartMut.{mid_of, put_mid}
use Rattle.std.specs.List.{All}
use Rattle.std.specs.List.Sorted.{IsPermutation}
use Rattle.std.proofs.lemmas.List.{get_or_read}
use Rattle.std.proofs.lemmas.List.Sorted.{length_permutation, All-permutation}
use Rattle.std.proofs.lemmas.Bool.{cases_lt, not-true}
use Rattle.std.proofs.lemmas.Grind.{common_steps}
use Rattle.select.specs.Orders.{TotalOrders}
use Rattle.select.specs.Divisions.{Parted, Halved, Divided, Narrowed}
use Rattle.select.specs.declared.element.Axis.{Axis}
use Rattle.select.proofs.Places.{length-mid, length_put, get_or-mid, get_or-put_below, get_or-put_inside}

module _ {E : Type 0} {before : Axis → E → E → Bool} (orders : TotalOrders before) (axis : Axis) where
  -- what is not behind the pivot is not behind what is not before the pivot
  across : (a b p : E) → before axis p a ≡ false → before axis b p ≡ false → before axis b a ≡ false
  across a b p pa bp = grind (arith, common_steps, orders.transitive axis b a p, orders.same axis a p)

  -- a slice is divided at a border where none in front of it is behind the pivot, and none from it on is before the pivot
  divided_by :
      (border middle : ℕ) (ys : List E)
      → ((k : ℕ) (d : E) → k < border → before axis (get_or ys middle d) (get_or ys k d) ≡ false)
      → ((k : ℕ) (d : E) → border ≤ k → k < length ys → before axis (get_or ys k d) (get_or ys middle d) ≡ false)
      → Divided (before axis) border ys
  divided_by border middle ys small great = λ j k d jb bk kh. across (get_or ys j d) (get_or ys k d) (get_or ys middle d) (small j d jb) (great k d bk kh)

  module _ {ys : List E} {middle : ℕ} (at : ℕ) (h : Halved (before axis) middle ys) where
    small : (k : ℕ) (d : E) → k ≤ middle → before axis (get_or ys middle d) (get_or ys k d) ≡ false
    small k d m = grind (arith, common_steps, orders.irreflexive axis, orders.transitive axis, h.smaller k d)

    great : (k : ℕ) (d : E) → middle ≤ k → k < length ys → before axis (get_or ys k d) (get_or ys middle d) ≡ false
    great k d m g = grind (arith, common_steps, orders.irreflexive axis, h.others k d)

    -- the elements level with the pivot are gathered above it
    module _ {rest : List E} {level : ℕ} {answers : E → Bool → Type 0} (pivot : E) (is : pivot ≡ get_or ys middle pivot)
        (tells : (e : E) (front : Bool) → answers e front → front ≡ not (before axis pivot e))
        (kept : IsPermutation (mid_of (middle + 1) (length ys - (middle + 1)) ys) rest)
        (parted : Parted answers (length (mid_of (middle + 1) (length ys - (middle + 1)) ys)) level rest) where
      abbrev n : ℕ
      n = length ys - (middle + 1)

      abbrev zs : List E
      zs = put_mid (middle + 1) n ys rest

      within : middle + 1 + n ≤ length ys
      within = omega (arith, h.inside)

      long_rest : length rest ≡ n
      long_rest = length_permutation _ rest kept ∙ length-mid (middle + 1) n ys within

      long : length zs ≡ length ys
      long = length_put (middle + 1) n ys within rest long_rest

      stays : (k : ℕ) (d : E) → k ≤ middle → get_or zs k d ≡ get_or ys k d
      stays k d m = get_or-put_below (middle + 1) n ys within rest long_rest k d (omega arith)

      moved : (k : ℕ) (d : E) → middle < k → k < length ys → get_or zs k d ≡ get_or rest (k - (middle + 1)) d
      moved k d m g = get_or-put_inside (middle + 1) n ys within rest long_rest k d (omega arith) (omega arith)

      pivot_stays : (d : E) → get_or zs middle d ≡ pivot
      pivot_stays d = stays middle d (omega arith) ∙ sym (get_or_read ys middle pivot h.inside is d)

      to_border : (k : ℕ) (d : E) → k < middle + 1 + level → before axis (get_or zs middle d) (get_or zs k d) ≡ false
      to_border k d b = ⊎_elim gathered (λ m. (λ i. before axis (stays middle d (omega arith) i) (stays k d m i)) ∙ small k d m) (cases_lt middle k)
        where
          gathered : middle < k → before axis (get_or zs middle d) (get_or zs k d) ≡ false
          gathered m =
              let answer = tells _ true (parted.passed (k - (middle + 1)) d (omega arith) (omega arith)) in
              (λ i. before axis (pivot_stays d i) (moved k d m (omega (arith, parted.to, length_permutation _ rest kept, long_rest)) i))
              ∙ not-true (before axis pivot (get_or rest (k - (middle + 1)) d)) (sym answer)

      -- none that was behind the pivot's place is before it, in whatever order they stand now
      rest_behind : All (λ e. before axis e pivot ≡ false) rest
      rest_behind = All-permutation (λ e. before axis e pivot ≡ false) _ rest kept (λ k d g.
          let inside : k < n = omega (arith, length-mid (middle + 1) n ys within) in
          (λ i. before axis (get_or-mid (middle + 1) n ys within k d inside i) (get_or_read ys middle pivot h.inside is d i))
          ∙ great (middle + 1 + k) d (omega arith) (omega (arith, within)))

      behind : (k : ℕ) (d : E) → middle < k → k < length zs → before axis (get_or zs k d) (get_or zs middle d) ≡ false
      behind k d m g =
          (λ i. before axis (moved k d m (omega (arith, long)) i) (pivot_stays d i))
          ∙ rest_behind (k - (middle + 1)) d (omega (arith, long, long_rest))

      pub narrowed_level : middle < at → at < middle + 1 + level → Narrowed (before axis) at at (at + 1) zs
      narrowed_level from to = record {
        first_at = omega arith;
        at_last = omega arith;
        inside = omega (arith, parted.to, length_permutation _ rest kept, long_rest, long);
        left = divided_by at middle zs (λ k d m. to_border k d (omega arith)) (λ k d m g. behind k d (omega arith) g);
        right = divided_by (at + 1) middle zs (λ k d m. to_border k d (omega arith)) (λ k d m g. behind k d (omega arith) g);
      }

      pub narrowed_behind : middle + 1 + level ≤ at → at < length ys → Narrowed (before axis) at (middle + 1 + level) (length zs) zs
      narrowed_behind from to = record {
        first_at = from;
        at_last = omega (arith, long);
        inside = omega arith;
        left = divided_by (middle + 1 + level) middle zs to_border (λ k d m g. behind k d (omega arith) g);
        right = λ j k d jb bk kh. absurd (omega arith);
      }

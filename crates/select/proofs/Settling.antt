-- Where the places that are left are settled, so is the whole slice. Assumes nothing.
use Rattle.std.proofs.Common.{◌≡◌, ℕ, ◌+◌, ◌-◌, ◌<◌, ◌≤◌, Bool, false, List, length, get_or, sym, ◌∙◌, subst, ⊎_elim, arith}
use borrow.Rule.Slice.PartMut.{mid_of, put_mid}
use Rattle.std.specs.List.{All}
use Rattle.std.specs.List.Sorted.{IsPermutation}
use Rattle.std.proofs.lemmas.List.Elements.{All-from_get_or}
use Rattle.std.proofs.lemmas.List.Sorted.{length_permutation, All-permutation}
use Rattle.std.proofs.lemmas.Bool.{cases_lt}
use Rattle.select.specs.Divisions.{Narrowed}
use Rattle.select.specs.Selections.{Settled}
use Rattle.select.proofs.Places.{length-mid, length_put, get_or-mid, get_or-put_below, get_or-put_inside, get_or-put_above}

module _ {E : Type 0} (before : E → E → Bool) {ys inner : List E} {at first last : ℕ} (n : Narrowed before at first last ys)
    (kept : IsPermutation (mid_of first (last - first) ys) inner) (settled : Settled before inner (at - first)) where
  abbrev zs : List E
  zs = put_mid first (last - first) ys inner

  within : first + (last - first) ≤ length ys
  within = omega (arith, n.inside, n.first_at, n.at_last)

  long_mid : length (mid_of first (last - first) ys) ≡ last - first
  long_mid = length-mid first (last - first) ys within

  long_inner : length inner ≡ last - first
  long_inner = length_permutation _ inner kept ∙ long_mid

  below : (k : ℕ) (d : E) → k < first → get_or zs k d ≡ get_or ys k d
  below = get_or-put_below first (last - first) ys within inner long_inner

  inside : (k : ℕ) (d : E) → first ≤ k → k < last → get_or zs k d ≡ get_or inner (k - first) d
  inside k d l h = get_or-put_inside first (last - first) ys within inner long_inner k d l (omega arith)

  above : (k : ℕ) (d : E) → last ≤ k → get_or zs k d ≡ get_or ys k d
  above k d h = get_or-put_above first (last - first) ys within inner long_inner k d (omega (arith, n.first_at, n.at_last))

  here : (d : E) → get_or zs at d ≡ get_or inner (at - first) d
  here d = inside at d n.first_at n.at_last

  -- what holds of each element that is left holds of the one that comes to stand at place `at`
  all_inner : (P : E → Type 0) (d : E) → ((k : ℕ) → first ≤ k → k < last → P (get_or ys k d)) → P (get_or inner (at - first) d)
  all_inner P d each = All-permutation P _ inner kept mid (at - first) d (omega (arith, long_inner, n.first_at, n.at_last))
    where
      mid : All P (mid_of first (last - first) ys)
      mid = All-from_get_or P _ d (λ k g.
          let h : k < last - first = omega (arith, long_mid) in
          subst P (sym (get_or-mid first (last - first) ys within k d h)) (each (first + k) (omega arith) (omega arith)))

  pub settled_whole : Settled before zs at
  settled_whole = record { left = left; right = right }
    where
      left : (k : ℕ) (d : E) → k < at → before (get_or zs at d) (get_or zs k d) ≡ false
      left k d h =
          ⊎_elim
          (λ c. (λ i. before (here d i) (below k d c i)) ∙ all_inner (λ e. before e (get_or ys k d) ≡ false) d (λ j l g. n.left k j d c l (omega (arith, n.inside))))
          (λ c. (λ i. before (here d i) (inside k d c (omega (arith, n.at_last)) i)) ∙ settled.left (k - first) d (omega arith))
          (cases_lt k first)

      right : (k : ℕ) (d : E) → at < k → k < length zs → before (get_or zs k d) (get_or zs at d) ≡ false
      right k d h g =
          ⊎_elim
          (λ c. (λ i. before (inside k d (omega (arith, n.first_at)) c i) (here d i)) ∙ settled.right (k - first) d (omega (arith, n.first_at)) (omega (arith, long_inner, n.first_at)))
          (λ c. (λ i. before (above k d c i) (here d i)) ∙ all_inner (λ e. before (get_or ys k d) e ≡ false) d (λ j l m. n.right j k d m c (omega (arith, long))))
          (cases_lt k last)
        where
          long : length zs ≡ length ys
          long = length_put first (last - first) ys within inner long_inner

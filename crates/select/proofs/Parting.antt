-- Partition: it grows by one place a turn, and its pivot comes to stand between the two sides. Assumes nothing.
use Rattle.std.proofs.Common.{◌≡◌, ℕ, ◌+◌, ◌-◌, ◌<◌, ◌≤◌, Bool, true, false, List, length, get_or, sym, ap, ◌∙◌, subst, ⊎_elim, arith}
use mir.Val.{bool_byte}
use borrow.Rule.Slice.PartMut.{mid_of, put_mid}
use Rattle.std.specs.List.{swap, AllWithin}
use Rattle.std.specs.List.Sorted.{IsPermutation}
use Rattle.std.proofs.lemmas.List.Edits.{Swapped, swapped_from_swap, length-swap}
use Rattle.std.proofs.lemmas.List.Sorted.{length_permutation}
use Rattle.std.proofs.lemmas.List.{get_or_read}
use Rattle.std.proofs.lemmas.Grind.{common_steps}
use Rattle.std.proofs.lemmas.Bool.{cases_lt, cases_eq}
use Rattle.select.specs.Divisions.{Parted, Halved}
use Rattle.select.proofs.Places.{length-mid, length_put, get_or-put_below, get_or-put_inside}

-- the element at the next place trades places with the one at the border, which moves up where the element passes
pub parted_more :
    {E : Type 0} {answers : E → Bool → Type 0} {ys zs : List E} {next border : ℕ} (step : ℕ) (element : E) (front : Bool)
    → Parted answers next border ys → next < length ys → zs ≡ swap ys next border → element ≡ get_or ys next element
    → answers element front → step ≡ bool_byte front → Parted answers (next + 1) (border + step) zs
parted_more {E} {answers} {ys} {zs} {next} {border} step element front p inside e is answered moved = record {
  to = omega (arith, p.to, most);
  passed = passed;
  failed = failed;
}
  where
    most : step ≤ 1
    most = grind (arith, common_steps, moved)

    swapped : (d : E) → Swapped (λ i. get_or ys i d) (λ i. get_or zs i d) next border
    swapped d = swapped_from_swap ys zs next border d inside (omega (arith, p.to)) e

    at_border : (k : ℕ) (d : E) → k ≡ border → element ≡ get_or zs k d
    at_border k d q = get_or_read ys next element inside is d ∙ sym (swapped d).1 ∙ ap (λ i. get_or zs i d) (sym q)

    passed : AllWithin (λ x. answers x true) zs 0 (border + step)
    passed k d l h =
        ⊎_elim
        (λ c. subst (λ x. answers x true) (sym ((swapped d).2 k (λ q. omega (arith, p.to)) (λ q. omega arith))) (p.passed k d l c))
        (λ c. subst (λ x. answers x true) (at_border k d (omega (arith, most))) (let is : front ≡ true = grind (arith, common_steps) in subst (answers element) is answered))
        (cases_lt k border)

    failed : AllWithin (λ x. answers x false) zs (border + step) (next + 1)
    failed k d l h =
        ⊎_elim
        (λ q. subst (λ x. answers x false) (at_border k d q) (let is : front ≡ false = grind (arith, common_steps) in subst (answers element) is answered))
        (λ n. ⊎_elim
        (λ q. subst (λ x. answers x false) (sym (swapped d).0 ∙ ap (λ i. get_or zs i d) (sym q)) (p.failed border d (omega arith) (omega (arith, n, q))))
        (λ m. subst (λ x. answers x false) (sym ((swapped d).2 k m n)) (p.failed k d (omega arith) (omega (arith, m))))
        (cases_eq k next))
        (cases_eq k border)

-- the pivot goes to the front, the elements before it are gathered behind it, and the last of these trades places with it
module _ {E : Type 0} (before : E → E → Bool) (answers : E → Bool → Type 0) (pivot : E) (xs fronted rest ys : List E) (place middle : ℕ)
    (tells : (e : E) (front : Bool) → answers e front → front ≡ before e pivot) (inside : place < length xs) (is : pivot ≡ get_or xs place pivot)
    (to_front : fronted ≡ swap xs 0 place) (kept : IsPermutation (mid_of 1 (length fronted - 1) fronted) rest)
    (parted : Parted answers (length (mid_of 1 (length fronted - 1) fronted)) middle rest)
    (to_middle : ys ≡ swap (put_mid 1 (length fronted - 1) fronted rest) 0 middle) where
  abbrev gathered : List E
  gathered = put_mid 1 (length fronted - 1) fronted rest

  long_fronted : length fronted ≡ length xs
  long_fronted = ap length to_front ∙ length-swap xs 0 place

  within : 1 + (length fronted - 1) ≤ length fronted
  within = omega (arith, long_fronted)

  long_rest : length rest ≡ length fronted - 1
  long_rest = length_permutation _ rest kept ∙ length-mid 1 (length fronted - 1) fronted within

  middle_inside : middle < length fronted
  middle_inside = omega (arith, parted.to, length_permutation _ rest kept, long_rest, long_fronted)

  long_gathered : length gathered ≡ length fronted
  long_gathered = length_put 1 (length fronted - 1) fronted within rest long_rest

  first : (d : E) → Swapped (λ i. get_or xs i d) (λ i. get_or fronted i d) 0 place
  first d = swapped_from_swap xs fronted 0 place d (omega arith) inside to_front

  second : (d : E) → Swapped (λ i. get_or gathered i d) (λ i. get_or ys i d) 0 middle
  second d = swapped_from_swap gathered ys 0 middle d (omega (arith, middle_inside, long_gathered)) (omega (arith, middle_inside, long_gathered)) to_middle

  pivot_there : (d : E) → get_or ys middle d ≡ pivot
  pivot_there d =
      (second d).1
      ∙ get_or-put_below 1 (length fronted - 1) fronted within rest long_rest 0 d (omega arith)
      ∙ (first d).0
      ∙ sym (get_or_read xs place pivot inside is d)

  -- what the partition answered of the element at a place behind the first
  answered : (k : ℕ) (d : E) (front : Bool) → 0 < k → k < length fronted → answers (get_or rest (k - 1) d) front → before (get_or gathered k d) pivot ≡ front
  answered k d front l h answer =
      ap (λ e. before e pivot) (get_or-put_inside 1 (length fronted - 1) fronted within rest long_rest k d (omega arith) (omega arith))
      ∙ sym (tells _ front answer)

  front_smaller : (k : ℕ) (d : E) → 0 < k → k ≤ middle → before (get_or gathered k d) pivot ≡ true
  front_smaller k d l h = answered k d true l (omega (arith, middle_inside)) (parted.passed (k - 1) d (omega arith) (omega arith))

  smaller : (k : ℕ) (d : E) → k < middle → before (get_or ys k d) pivot ≡ true
  smaller k d h = grind (arith, common_steps, second d, front_smaller middle d, front_smaller k d)

  others : (k : ℕ) (d : E) → middle < k → k < length fronted → before (get_or ys k d) pivot ≡ false
  others k d l h = grind (arith, common_steps, second d, answered k d false, parted.failed (k - 1) d, length_permutation _ rest kept, long_rest)

  pub halved : Halved before middle ys
  halved = record {
    inside = omega (arith, middle_inside, long);
    smaller = λ k d h. ap (before (get_or ys k d)) (pivot_there d) ∙ smaller k d h;
    others = λ k d l h. ap (before (get_or ys k d)) (pivot_there d) ∙ others k d l (omega (arith, long));
  }
    where
      long : length ys ≡ length fronted
      long = ap length to_middle ∙ length-swap gathered 0 middle ∙ long_gathered

-- How the counts of the hits change as a hit comes or goes. Assumes nothing.
use Rattle.std.proofs.Common.{◌≡◌, ℕ, ◌+◌, ◌-◌, ◌<◌, ◌≤◌, true, cond, List, length, get_or, take, set, position, sum_by, Some, None, sym, ap, ◌∙◌, ⊎_elim, arith, length-set, length-take-le, get_or-take}
use Rattle.std.specs.List.{position_or_len}
use lib.Seq.{take-set-lt, take-set-le}
use Rattle.std.proofs.lemmas.List.Sums.{sum_by-set, sum_by_more, get_or-le-sum_by, fails_before_first}
use Rattle.std.proofs.ByRecursion.{All-from_get_or}
use Rattle.std.proofs.lemmas.List.Quantifiers.{position-Some}
use Rattle.std.proofs.lemmas.Bool.{cases_lt, lt-ltb}
use Rattle.std.proofs.lemmas.Option.{none-some}
use Rattle.grid.specs.Cells.{same, count, origin}
use Rattle.grid.specs.declared.cell.Cell.{Cell}
use Rattle.grid.proofs.Sames.{same_equal}
use Rattle.arrange.proofs.Counted.{count_none}
use Rattle.sheet.specs.Counts.{Counts, fewer}
use Rattle.sheet.specs.Memory.{tally}

-- counts are equal where they agree on every cell and on the number of hits
pub same-counts : (t u : Counts) → ((c : Cell) → t.times c ≡ u.times c) → t.held ≡ u.held → t ≡ u
same-counts t u each all = λ i. record { times = λ c. each c i; held = all i }

module _ {X : Type 0} (f : X → ℕ) where
  -- the last of n + 1 elements takes the place of the one that goes
  sum_closed : (xs : List X) (i n : ℕ) (d : X) → i < n + 1 → n < length xs → sum_by f (take n (set xs i (get_or xs n d))) + f (get_or xs i d) ≡ sum_by f (take (n + 1) xs)
  sum_closed xs i n d inside within = ⊎_elim moved last (cases_lt i n)
    where
      whole : sum_by f (take (n + 1) xs) ≡ sum_by f (take n xs) + f (get_or xs n d)
      whole = sum_by_more f xs n d within

      last : n ≤ i → sum_by f (take n (set xs i (get_or xs n d))) + f (get_or xs i d) ≡ sum_by f (take (n + 1) xs)
      last h =
          let e : i ≡ n = omega arith in
          ap (λ ys. sum_by f ys + f (get_or xs i d)) (take-set-le n xs i (get_or xs n d) h)
          ∙ ap (λ k. sum_by f (take n xs) + f (get_or xs k d)) e
          ∙ sym whole

      moved : i < n → sum_by f (take n (set xs i (get_or xs n d))) + f (get_or xs i d) ≡ sum_by f (take (n + 1) xs)
      moved h =
          let front = length-take-le n xs (omega arith) in
          ap (λ ys. sum_by f ys + f (get_or xs i d)) (take-set-lt n xs i (get_or xs n d) h)
          ∙ ap (λ x. sum_by f (set (take n xs) i (get_or xs n d)) + f x) (sym (get_or-take n xs i d h))
          ∙ sum_by-set f (take n xs) i (get_or xs n d) d (omega arith)
          ∙ sym whole

-- a hit of cell c goes, and the last hit takes its place
pub tally_closed : (cells : List Cell) (c : Cell) (i n : ℕ) → i < n + 1 → n < length cells → same c (get_or cells i origin) ≡ true → tally (take n (set cells i (get_or cells n origin))) ≡ fewer c (tally (take (n + 1) cells))
tally_closed cells c i n inside within is = same-counts _ _ each all
  where
    each : (d : Cell) → count d (take n (set cells i (get_or cells n origin))) ≡ count d (take (n + 1) cells) - cond (same d c) 1 0
    each d =
        let gone = sum_closed (λ h. cond (same d h) 1 0) cells i n origin inside within in
        let cell = ap (λ h. cond {A = ℕ} (same d h) 1 0) (same_equal c (get_or cells i origin) is) in
        omega (arith, gone, cell)

    all : length (take n (set cells i (get_or cells n origin))) ≡ length (take (n + 1) cells) - 1
    all =
        length-take-le n (set cells i (get_or cells n origin)) (omega (arith, length-set cells i (get_or cells n origin)))
        ∙ omega (arith, length-take-le (n + 1) cells (omega arith))

-- a cell that no hit is of is not counted
pub none_counted : (c : Cell) (hs : List Cell) → position (same c) hs ≡ None → count c hs ≡ 0
none_counted c hs none =
    count_none (same c) hs (All-from_get_or _ hs origin (λ k h. fails_before_first (same c) hs k origin (omega (arith, all))))
  where
    all : length hs ≤ position_or_len (same c) hs
    all = ⊎_elim (λ h. absurd (none-some _ (sym none ∙ ap (λ b. cond b (Some (position_or_len (same c) hs)) None) (lt-ltb _ _ h)))) (λ h. h) (cases_lt (position_or_len (same c) hs) (length hs))

-- a cell that a hit is of is counted
pub some_counted : (c : Cell) (hs : List Cell) (k : ℕ) → position (same c) hs ≡ Some k → 0 < count c hs
some_counted c hs k found =
    let first = position-Some (same c) hs k origin found in
    let one : 1 ≡ cond {A = ℕ} (same c (get_or hs k origin)) 1 0 = simp first.1 in
    omega (arith, one, get_or-le-sum_by (λ h. cond (same c h) 1 0) hs k origin first.0)

-- The hits that calls leave, as a list, have the counts that the calls leave. Assumes nothing.
use Rattle.std.proofs.Common.{◌≡◌, ℕ, ◌+◌, ◌<◌, Bool, true, false, cond, ltb, List, [], ◌∷◌, length, is_some, Some, None, fold, Option, refl, ap, ◌∙◌, arith}
use Rattle.std.proofs.lemmas.List.Sums.{sum_by-cons}
use Rattle.std.proofs.lemmas.Bool.{cond_both, cond-false, ltb-true, true≢false}
use Rattle.grid.specs.Cells.{same, on, count}
use Rattle.grid.specs.declared.cell.Cell.{Cell}
use Rattle.grid.proofs.Sames.{same_equal}
use Rattle.sheet.specs.Counts.{Counts, more, fewer, unless, refusal, step, counts, counts_from}
use Rattle.sheet.specs.Held.{without, hits_step, hits_after}
use Rattle.sheet.specs.Memory.{tally}
use Rattle.sheet.specs.declared.call.Call.{Call}
use Rattle.sheet.specs.declared.call.Call.TheVariants.{Put, TakeBack, Clear, Held}
use Rattle.sheet.specs.declared.refusal.Refusal.{Refusal}
use Rattle.sheet.specs.declared.refusal.Refusal.TheVariants.{OffGrid, NotHeld}
use Rattle.sheet.proofs.Tallies.{same-counts}

count-first : (d c : Cell) (hs : List Cell) → count d (c ∷ hs) ≡ cond (same d c) 1 0 + count d hs
count-first d c hs = sum_by-cons (λ h. cond (same d h) 1 0) c hs

tally-first : (c : Cell) (hs : List Cell) → tally (c ∷ hs) ≡ more c (tally hs)
tally-first c hs = same-counts _ _ (λ d. omega (arith, count-first d c hs)) (omega arith)

-- where c is held, one hit of it is gone
count-without : (c d : Cell) (hs : List Cell) → 0 < count c hs → count d (without c hs) + cond (same d c) 1 0 ≡ count d hs
unfolding without
count-without c d [] some = absurd (omega arith)
count-without c d (h ∷ hs) some =
    cond_both (same c h) hs (h ∷ without c hs) (λ zs. count d zs + cond (same d c) 1 0 ≡ count d (h ∷ hs))
    (λ is. omega (arith, count-first d h hs, ap (λ e. cond {A = ℕ} (same d e) 1 0) (same_equal c h is)))
    (λ is. omega (
      arith,
      count-first d h hs,
      count-first d h (without c hs),
      count-without c d hs (omega (arith, some, count-first c h hs, cond-false {A = ℕ} (same c h) 1 0 is)),
    ))

length_without : (c : Cell) (hs : List Cell) → 0 < count c hs → length (without c hs) + 1 ≡ length hs
unfolding without
length_without c [] some = absurd (omega arith)
length_without c (h ∷ hs) some =
    cond_both (same c h) hs (h ∷ without c hs) (λ zs. length zs + 1 ≡ length (h ∷ hs)) (λ is. omega arith)
    (λ is. omega (arith, length_without c hs (omega (arith, some, count-first c h hs, cond-false {A = ℕ} (same c h) 1 0 is))))

tally-without : (c : Cell) (hs : List Cell) → 0 < count c hs → tally (without c hs) ≡ fewer c (tally hs)
tally-without c hs some =
    same-counts _ _ (λ d. omega (arith, count-without c d hs some)) (omega (arith, length_without c hs some))

tally-unless : (o : Option Refusal) (new old : List Cell) (t : Counts) → (o ≡ None → tally new ≡ t) → tally (unless o new (λ e. old)) ≡ unless o t (λ e. tally old)
tally-unless None new old t fine = fine refl
tally-unless (Some e) new old t fine = refl

-- a cell that is taken back is held
taken_held : (on-it held : Bool) → cond on-it (cond held None (Some NotHeld)) (Some OffGrid) ≡ None → held ≡ true
taken_held true true fine = refl
taken_held true false fine = absurd (true≢false (ap is_some fine))
taken_held false held fine = absurd (true≢false (ap is_some fine))

tally-step : (side places : ℕ) (hs : List Cell) (call : Call) → tally (hits_step side places hs call) ≡ step side places (tally hs) call
tally-step side places hs (Put c) =
    tally-unless (refusal side places (tally hs) (Put c)) (c ∷ hs) hs _ (λ _. tally-first c hs)
tally-step side places hs (TakeBack c) =
    tally-unless (refusal side places (tally hs) (TakeBack c)) (without c hs) hs _ (λ fine.
    tally-without c hs (ltb-true 0 (count c hs) (taken_held (on side c) (ltb 0 (count c hs)) fine)))
tally-step side places hs Clear = refl
tally-step side places hs Held = refl

tally_from : (side places : ℕ) (hs : List Cell) (calls : List Call) → tally (fold (hits_step side places) hs calls) ≡ counts_from side places (tally hs) calls
tally_from side places hs [] = refl
tally_from side places hs (call ∷ calls) =
    tally_from side places (hits_step side places hs call) calls
    ∙ ap (λ t. counts_from side places t calls) (tally-step side places hs call)

-- the list and the counts say the same
pub tally_after : (side places : ℕ) (calls : List Call) → tally (hits_after side places calls) ≡ counts side places calls
unfolding hits_after
tally_after side places calls = tally_from side places [] calls

-- a cell is as often in the list as the calls leave it
pub count-hits_after : (side places : ℕ) (calls : List Call) (c : Cell) → count c (hits_after side places calls) ≡ (counts side places calls).times c
count-hits_after side places calls c = ap (λ t. t.times c) (tally_after side places calls)

-- A sheet by its calls: how often each cell is held, and what each call answers, from the grid's side, the number of
-- places and the calls alone.
use Rattle.std.specs.Prelude.{ℕ, ◌+◌, ◌-◌, min, max, cond, List, [], ◌∷◌, Some, None, Ok, Err, fold, Option, Result, nat_lt}
use Rattle.grid.specs.Cells.{same, on}
use Rattle.grid.specs.declared.cell.Cell.{Cell}
use Rattle.sheet.specs.declared.call.Call.{Call}
use Rattle.sheet.specs.declared.call.Call.TheVariants.{Put, TakeBack, Clear, Held}
use Rattle.sheet.specs.declared.refusal.Refusal.{Refusal}
use Rattle.sheet.specs.declared.refusal.Refusal.TheVariants.{OffGrid, Full, NotHeld}

-- how often each cell is held, and how many hits in all; contracts tie both to one list of hits, in which they agree
pub record Counts : Type 0 where
  pub times : Cell → ℕ
  pub held : ℕ

-- a new sheet holds no hit
abbrev pub none : Counts
none = record { times = λ d. 0; held = 0 }

-- one hit of c more, and of any other cell as many as before
abbrev pub more : Cell → Counts → Counts
more c t = record { times = λ d. t.times d + cond (same d c) 1 0; held = t.held + 1 }

-- one hit of c less
abbrev pub fewer : Cell → Counts → Counts
fewer c t = record { times = λ d. t.times d - cond (same d c) 1 0; held = t.held - 1 }

-- the most hits that a sheet with so many places holds
abbrev pub room : ℕ → ℕ
room places = min places 1048576

-- why a call is refused at these counts, the first reason that applies; a call that is not refused is accepted
abbrev pub refusal : ℕ → ℕ → Counts → Call → Option Refusal
refusal side places t (Put c) = cond (on side c) (cond (nat_lt t.held (room places)) None (Some Full)) (Some OffGrid)
refusal side places t (TakeBack c) = cond (on side c) (cond (nat_lt 0 (t.times c)) None (Some NotHeld)) (Some OffGrid)
refusal side places t Clear = None
refusal side places t Held = None

-- what an accepted call makes of the counts
abbrev pub accepted : Counts → Call → Counts
accepted t (Put c) = more c t
accepted t (TakeBack c) = fewer c t
accepted t Clear = none
accepted t Held = t

-- x where a call is accepted, and f of the reason where it is refused
abbrev pub unless : {X : Type 0} → Option Refusal → X → (Refusal → X) → X
unless None x f = x
unless (Some e) x f = f e

-- what a call makes of the counts: a refusal leaves them as they are
abbrev pub step : ℕ → ℕ → Counts → Call → Counts
step side places t call = unless (refusal side places t call) (accepted t call) (λ e. t)

-- what a call answers: the hits then held, or the refusal
abbrev pub answer : ℕ → ℕ → Counts → Call → Result ℕ Refusal
answer side places t call = unless (refusal side places t call) (Ok (accepted t call).held) Err

-- the counts after a list of calls on a sheet with the counts t, the first call first
abbrev pub counts_from : ℕ → ℕ → Counts → List Call → Counts
counts_from side places t calls = fold (step side places) t calls

-- the counts after a list of calls on a new sheet
abbrev pub counts : ℕ → ℕ → List Call → Counts
counts side places calls = counts_from side places none calls

-- the most hits held at any time of a run, its start and its end among them
abbrev pub peak : ℕ → ℕ → Counts → List Call → ℕ
peak side places t [] = t.held
peak side places t (call ∷ calls) = max t.held (peak side places (step side places t call) calls)

-- what each call of the list answers, by the counts at that point
abbrev pub answers_from : ℕ → ℕ → Counts → List Call → List (Result ℕ Refusal)
answers_from side places t [] = []
answers_from side places t (call ∷ calls) =
    answer side places t call ∷ answers_from side places (step side places t call) calls

-- what each call of the list answers on a new sheet
abbrev pub answers : ℕ → ℕ → List Call → List (Result ℕ Refusal)
answers side places calls = answers_from side places none calls

-- The hits that calls leave, as a list.
use Rattle.std.specs.Prelude.{ℕ, cond, List, [], ◌∷◌, fold}
use Rattle.grid.specs.Cells.{same}
use Rattle.grid.specs.declared.cell.Cell.{Cell}
use Rattle.sheet.specs.Counts.{refusal, unless}
use Rattle.sheet.specs.Memory.{tally}
use Rattle.sheet.specs.declared.call.Call.{Call}
use Rattle.sheet.specs.declared.call.Call.TheVariants.{Put, TakeBack, Clear, Held}

-- the hits without the first one of cell c
unfoldable pub without : Cell → List Cell → List Cell
without c [] = []
without c (d ∷ ds) = cond (same c d) ds (d ∷ without c ds)

-- what an accepted call makes of the hits: putting adds one in front, taking back removes one, and clearing removes all
abbrev pub left_by : Call → List Cell → List Cell
left_by (Put c) hs = c ∷ hs
left_by (TakeBack c) hs = without c hs
left_by Clear hs = []
left_by Held hs = hs

-- what a call makes of the hits: a refusal, by the counts of the hits, leaves them as they are
abbrev pub hits_step : ℕ → ℕ → List Cell → Call → List Cell
hits_step side places hs call = unless (refusal side places (tally hs) call) (left_by call hs) (λ e. hs)

-- the hits after a list of calls on a new sheet, the first call first
unfoldable pub hits_after : ℕ → ℕ → List Call → List Cell
unfolding without
hits_after side places calls = fold (hits_step side places) [] calls

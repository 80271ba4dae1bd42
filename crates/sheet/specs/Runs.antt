-- Whole runs: the entries of a journal, and what making its calls leaves.
use Rattle.std.specs.Prelude.{◌≡◌, ℕ, Bool, true, not, ◌&&◌, List, [], ◌∷◌, map, drop, Result}
use Rattle.sheet.specs.Counts.{counts_from, peak, answers_from}
use Rattle.sheet.specs.Memory.{memory, places, hits, tally, writes}
use Rattle.sheet.specs.declared.call.Call.{Call}
use Rattle.sheet.specs.declared.refusal.Refusal.{Refusal}
use Rattle.sheet.specs.declared.run.Entry.{Entry}
use Rattle.sheet.specs.declared.sheet.Sheet.{Sheet}

abbrev pub call_of : Entry → Call
call_of e = e.call

abbrev pub answer_of : Entry → Result ℕ Refusal
answer_of e = e.answer

-- no call of the journal wrote into the memory, by its answer
abbrev pub none_writes : List Entry → Bool
none_writes [] = true
none_writes (e ∷ es) = not (writes e.call e.answer) && none_writes es

-- what making the calls of a journal leaves of a sheet and of the journal, by the counts of the hits before it
pub record Runs (before after : Sheet) (asked answered : List Entry) : Type 0 where
  pub counts : tally (hits after.lent) ≡ counts_from before.grid.side (places before.lent) (tally (hits before.lent)) (map call_of asked)
  pub answers : map answer_of answered ≡ answers_from before.grid.side (places before.lent) (tally (hits before.lent)) (map call_of asked)
  pub calls : map call_of answered ≡ map call_of asked
  -- where no call wrote, every place is as it was
  pub left : none_writes answered ≡ true → memory after.lent ≡ memory before.lent
  -- and in any run those places that held no hit at any time of it
  pub behind : drop (peak before.grid.side (places before.lent) (tally (hits before.lent)) (map call_of asked)) (memory after.lent) ≡ drop (peak before.grid.side (places before.lent) (tally (hits before.lent)) (map call_of asked)) (memory before.lent)
  -- on the same grid, in the same memory, with as many places
  pub grid : after.grid ≡ before.grid
  pub lent : after.lent.cells.ghost_name ≡ before.lent.cells.ghost_name
  pub places : places after.lent ≡ places before.lent

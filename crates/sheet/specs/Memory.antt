-- What the memory of a sheet holds.
use Rattle.std.specs.Prelude.{◌≡◌, ℕ, max, Bool, false, List, length, take, drop, is_ok, Result}
use Rattle.grid.specs.Cells.{count}
use Rattle.grid.specs.declared.cell.Cell.{Cell}
use Rattle.sheet.specs.Counts.{Counts, answer, step}
use Rattle.sheet.specs.declared.call.Call.{Call}
use Rattle.sheet.specs.declared.call.Call.TheVariants.{Put, TakeBack, Clear, Held}
use Rattle.sheet.specs.declared.refusal.Refusal.{Refusal}
use Rattle.sheet.specs.declared.sheet.Lent.{Lent}
use Rattle.sheet.specs.declared.sheet.Sheet.{Sheet}

-- the lent cells, hits and others
abbrev pub memory : Lent → List Cell
memory l = l.cells.now

-- the number of places: as many as were lent
abbrev pub places : Lent → ℕ
places l = length (memory l)

-- the hits that are held
abbrev pub hits : Lent → List Cell
hits l = take l.held (memory l)

-- how often a list of hits has each cell, and how many there are
abbrev pub tally : List Cell → Counts
tally hs = record { times = λ c. count c hs; held = length hs }

-- whether a call may write into the memory: an accepted put or taking-back does
abbrev pub writes : Call → Result ℕ Refusal → Bool
writes (Put c) r = is_ok r
writes (TakeBack c) r = is_ok r
writes Clear r = false
writes Held r = false

-- what a call answers and leaves, by the counts of the hits before it
pub record Does (before after : Sheet) (call : Call) (r : Result ℕ Refusal) : Type 0 where
  pub answered : r ≡ answer before.grid.side (places before.lent) (tally (hits before.lent)) call
  pub counted : tally (hits after.lent) ≡ step before.grid.side (places before.lent) (tally (hits before.lent)) call
  -- on the same grid, in the same memory, with as many places
  pub grid : after.grid ≡ before.grid
  pub lent : after.lent.cells.ghost_name ≡ before.lent.cells.ghost_name
  pub as_many : places after.lent ≡ places before.lent
  -- a call that does not write leaves every place as it was
  pub left : writes call r ≡ false → memory after.lent ≡ memory before.lent
  -- and any call those places that hold no hit before or after it
  pub behind : drop (max (length (hits before.lent)) (length (hits after.lent))) (memory after.lent) ≡ drop (max (length (hits before.lent)) (length (hits after.lent))) (memory before.lent)

-- What arranging the hits of a sheet leaves.
use Rattle.std.specs.Prelude.{◌≡◌, length, drop}
use Rattle.sheet.specs.Memory.{memory, places, hits, tally}
use Rattle.sheet.specs.declared.sheet.Sheet.{Sheet}

-- the same hits on the same grid in the same memory, in whatever order, and the places behind them as they were
pub record Keeps (before after : Sheet) : Type 0 where
  pub counted : tally (hits after.lent) ≡ tally (hits before.lent)
  pub grid : after.grid ≡ before.grid
  pub lent : after.lent.cells.ghost_name ≡ before.lent.cells.ghost_name
  pub as_many : places after.lent ≡ places before.lent
  pub behind : drop (length (hits before.lent)) (memory after.lent) ≡ drop (length (hits before.lent)) (memory before.lent)

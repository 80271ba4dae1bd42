-- What packing answers and leaves.
use Rattle.std.specs.Prelude.{◌≡◌, ℕ, Bool, cond, List, ◌++◌, length, drop, is_ok, Ok, Err, Result, nat_le}
use Rattle.grid.specs.declared.cell.Cell.{Cell}
use Rattle.sheet.specs.Counts.{Counts, counts}
use Rattle.sheet.specs.declared.call.Call.{Call}
use Rattle.spot.specs.Spots.{Making, Packed}
use Rattle.spot.specs.declared.refusal.PackRefused.{PackRefused}

-- the answer to the wish to write a spot into so many bytes
abbrev pub spot_answer : List ℕ → ℕ → Result ℕ PackRefused
spot_answer spot bytes = cond (nat_le (length spot) bytes) (Ok (length spot)) (Err PackRefused.NoRoom)

-- the answer to the wish to pack so many hits with a scratch so long
abbrev pub pack_answer : ℕ → ℕ → List ℕ → ℕ → Result ℕ PackRefused
pack_answer held scratch spot bytes = cond (nat_le held scratch) (spot_answer spot bytes) (Err PackRefused.NoScratch)

-- the bytes that are left: the spot in front of what stood behind it, or all as it was
abbrev pub left_by : List ℕ → List ℕ → Bool → List ℕ
left_by spot out accepted = cond accepted (spot ++ drop (length spot) out) out

-- packing at counts t, with a scratch so long, into the bytes out
pub record Packs (M : Making) (side : ℕ) (t : Counts) (scratch : ℕ) (out left : List ℕ) (r : Result ℕ PackRefused) : Type 0 where
  pub spot : List ℕ
  pub packed : Packed M side t spot
  pub answered : r ≡ pack_answer t.held scratch spot (length out)
  pub bytes : left ≡ left_by spot out (is_ok r)

-- two runs of calls on one grid, with any numbers of places, that end with every cell held equally often are packed by one
-- make to the same bytes
abbrev pub SameBytes : Making → Type 0
SameBytes M =
    (side places places' : ℕ) (calls calls' : List Call) (bytes bytes' : List ℕ)
    → ((c : Cell) → (counts side places calls).times c ≡ (counts side places' calls').times c)
    → Packed M side (counts side places calls) bytes
    → Packed M side (counts side places' calls') bytes'
    → bytes ≡ bytes'

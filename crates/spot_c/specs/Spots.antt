-- What packing through the exported function tells and leaves.
use Rattle.std.specs.Prelude.{◌≡◌, ℕ, zero, suc, Bool, true, false, cond, ◌&&◌, List, [], ◌∷◌, map, Some, None, Ok, Err, Option, Result, nat_le}
use Rattle.grid.specs.Joined.{cell_of_joined}
use Rattle.grid.specs.declared.cell.Cell.{Cell}
use Rattle.cellcode.specs.Ring.{ring}
use Rattle.cellcode.specs.Row.{row}
use Rattle.numlist.specs.Lists.{Meaning}
use Rattle.pile.specs.Refusals.{number as pile_number}
use Rattle.pile.specs.declared.refusal.PileRefused.{PileRefused}
use Rattle.sheet.specs.Counts.{Counts, counts, none, refusal, step, unless}
use Rattle.sheet.specs.Refusals.{number}
use Rattle.sheet.specs.declared.call.Call.{Call}
use Rattle.sheet.specs.declared.refusal.Refusal.{Refusal}
use Rattle.spot.specs.Packs.{Packs}
use Rattle.spot.specs.Refusals.{pack_number}
use Rattle.spot.specs.Spots.{Making, making}
use Rattle.spot.specs.declared.refusal.PackRefused.{PackRefused}
use Rattle.spot_c.specs.Lists.{refused}

-- a hit, a cell in one number, as the call that puts it
abbrev pub put_of : ℕ → Call
put_of hit = Call.Put (cell_of_joined hit)

-- the calls that put hits
abbrev pub puts : List ℕ → List Call
puts hits = map put_of hits

-- the first refusal of calls at counts t
abbrev pub first_refusal : ℕ → ℕ → Counts → List Call → Option Refusal
first_refusal side places t [] = None
first_refusal side places t (call ∷ calls) =
    unless (refusal side places t call) (first_refusal side places (step side places t call) calls) Some

-- a cell code: by side, parent and cell
abbrev pub Code : Type 0
Code = ℕ → Cell → Cell → ℕ

-- the cell code of a number: 0 is the ring code, and 1 the row code
abbrev pub code_by : ℕ → Option Code
code_by zero = Some ring
code_by (suc zero) = Some row
code_by (suc (suc n)) = None

-- whether a list reaches from 42 to 64 bits
abbrev pub is_wide : Meaning → Bool
is_wide L = nat_le 42 L.reach && nat_le L.reach 64

-- the make of a code and a list, or the number of the first refusal: that of the list, and then 11
abbrev pub made_by : Option Code → Result Meaning PileRefused → ℕ → Result Making ℕ
made_by code (Err e) tag = Err (pile_number e)
made_by None (Ok L) tag = Err 11
made_by (Some code) (Ok L) tag = cond (is_wide L) (Ok (making code L tag)) (Err 11)

-- the make that a full sheet is packed by, or the number of the first refusal before packing: that of the side, of the
-- make, and of a put
abbrev pub ready : Bool → Result Making ℕ → Option Refusal → Result Making ℕ
ready false make put = Err 1
ready true (Err n) put = Err n
ready true (Ok M) (Some e) = Err (number e)
ready true (Ok M) None = Ok M

-- what packing tells: the bytes of the spot, or why it is not written
abbrev pub pack_told : Result ℕ PackRefused → ℕ
pack_told (Ok n) = n
pack_told (Err e) = refused (pack_number e)

-- packing the sheet on which all hits are put, of so many places, tells r and leaves the bytes; a refusal before it leaves
-- them as they were
abbrev pub SpotTold : Result Making ℕ → ℕ → Counts → ℕ → List ℕ → List ℕ → ℕ → Type 0
SpotTold (Err n) side t scratch out left r = (r ≡ refused n) × (left ≡ out)
SpotTold (Ok M) side t scratch out left r =
    (answer : Result ℕ PackRefused) × ((r ≡ pack_told answer) × Packs M side t scratch out left answer)

-- the counts of a new sheet with so many places on which hits are put, and the first refusal of a put
abbrev pub hits_counts : ℕ → ℕ → List ℕ → Counts
hits_counts side places hits = counts side places (puts hits)

abbrev pub hits_refusal : ℕ → ℕ → List ℕ → Option Refusal
hits_refusal side places hits = first_refusal side places none (puts hits)

-- hits put on a new sheet with so many places and packed, on a grid if the side is one and by a make if there is one
abbrev pub HitsTold : Bool → Result Making ℕ → ℕ → ℕ → List ℕ → ℕ → List ℕ → List ℕ → ℕ → Type 0
HitsTold allowed make side places hits scratch out left r =
    SpotTold (ready allowed make (hits_refusal side places hits)) side (hits_counts side places hits) scratch out left r

-- What the exported functions of number lists answer in one number, and what they leave.
use Rattle.std.specs.Prelude.{◌≡◌, ℕ, ◌+◌, ◌*◌, ◌^◌, ◌<◌, ◌≤◌, min, Bool, true, cond, ◌&&◌, ◌⊎◌, List, [], ◌∷◌, length, is_ok, Ok, Err, Result, nat_lt, slice_index}
use Rattle.numlist.specs.Calls.{write_answer, written, open_answer}
use Rattle.numlist.specs.Lists.{Meaning, most}
use Rattle.numlist.specs.Refusals.{write_number, test_number}
use Rattle.numlist.specs.declared.fault.ListFault.{ListFault}
use Rattle.numlist.specs.declared.refusal.OpenRefused.{OpenRefused}
use Rattle.numlist.specs.declared.refusal.WriteRefused.{WriteRefused}
use Rattle.pile.specs.Refusals.{number}
use Rattle.pile.specs.declared.refusal.PileRefused.{PileRefused}

-- a refusal, by its number
abbrev pub refused : ℕ → ℕ
refused n = 2 ^ 63 + n

-- a fault of bytes: 13, the test and the level
abbrev pub fault_told : ListFault → ℕ
fault_told fault = refused (13 + 256 * test_number fault.test + 65536 * min fault.level 255)

-- what writing tells: the length of the string, or why it is not written
abbrev pub write_told : Result ℕ WriteRefused → ℕ
write_told (Ok n) = n
write_told (Err refusal) = refused (write_number refusal)

-- what opening tells: the length of the string, or why there is none
abbrev pub open_told : Result ℕ OpenRefused → ℕ
open_told (Ok n) = n
open_told (Err OpenRefused.TooMany) = refused 11
open_told (Err (OpenRefused.Faulty fault)) = fault_told fault

-- the same of the list of a pile, if there is one
abbrev pub pile_write_told : Result Meaning PileRefused → List ℕ → ℕ → ℕ
pile_write_told (Ok L) xs bytes = write_told (write_answer L xs bytes)
pile_write_told (Err refusal) xs bytes = refused (number refusal)

abbrev pub pile_written : Result Meaning PileRefused → List ℕ → List ℕ → List ℕ
pile_written (Ok L) xs out = written L xs out (is_ok (write_answer L xs (length out)))
pile_written (Err refusal) xs out = out

abbrev pub pile_open_told : Result Meaning PileRefused → List ℕ → ℕ → ℕ
pile_open_told (Ok L) bytes m = open_told (open_answer L bytes m)
pile_open_told (Err refusal) bytes m = refused (number refusal)

-- each place is one of m numbers
abbrev pub all_inside : ℕ → List ℕ → Bool
all_inside m [] = true
all_inside m (p ∷ ps) = nat_lt p m && all_inside m ps

-- places of which each is replaced by the number there, up to the first that is not below m
abbrev pub looked_up : List ℕ → ℕ → List ℕ → List ℕ
looked_up xs m [] = []
looked_up xs m (p ∷ ps) = cond (nat_lt p m) (slice_index xs p ∷ looked_up xs m ps) (p ∷ ps)

-- reading the places old of m numbers tells r and leaves the places new. Of bytes that begin with no string of m numbers
-- it is only known that the answer is one of those that reading has
pub record ReadTold (L : Meaning) (bytes : List ℕ) (m : ℕ) (old new : List ℕ) (r : ℕ) : Type 0 where
  pub many : most < m → (r ≡ refused 11) × (new ≡ old)
  pub accepted :
      (n : ℕ) → m ≤ most → L.verdict bytes m ≡ Ok n
      → (r ≡ cond (all_inside m old) 0 (refused 11)) × (new ≡ looked_up (L.numbers bytes m) m old)
  pub others : m ≤ most → (r ≡ 0) ⊎ ((r ≡ refused 11) ⊎ ((fault : ListFault) × (r ≡ fault_told fault)))

-- the same of the list of a pile, if there is one
abbrev pub PileReadTold : Result Meaning PileRefused → List ℕ → ℕ → List ℕ → List ℕ → ℕ → Type 0
PileReadTold (Ok L) bytes m old new r = ReadTold L bytes m old new r
PileReadTold (Err refusal) bytes m old new r = (r ≡ refused (number refusal)) × (new ≡ old)

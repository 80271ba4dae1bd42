-- Number lists: what a list makes of numbers, and what it answers to bytes.
use Rattle.std.specs.Prelude.{◌≡◌, ℕ, ◌+◌, ◌*◌, ◌≤◌, Bool, cond, List, ◌++◌, length, take, Ok, Err, Result}
use Rattle.bits.specs.Packing.{Narrow}
use Rattle.numlist.specs.declared.fault.ListFault.{ListFault}
use Rattle.numlist.specs.declared.fault.Test.{Test}

-- what a list means: its numbers have at most reach bits, string gives the bytes of numbers, verdict of any bytes and a
-- count the length of the string that the bytes begin with or else their first fault, and numbers the numbers of that string
pub record Meaning : Type 0 where
  pub reach : ℕ
  pub string : List ℕ → List ℕ
  pub verdict : List ℕ → ℕ → Result ℕ ListFault
  pub numbers : List ℕ → ℕ → List ℕ

-- the most numbers of a list
abbrev pub most : ℕ
most = 1048576

-- bytes begin with a string of L that is n bytes long, that of the m numbers which L reads in them
pub record Begins (L : Meaning) (bytes : List ℕ) (m n : ℕ) : Type 0 where
  pub within : n ≤ length bytes
  pub count : length (L.numbers bytes m) ≡ m
  pub narrow : Narrow L.reach (L.numbers bytes m)
  pub same : take n bytes ≡ L.string (L.numbers bytes m)

-- what every list shows: the numbers come back from their string, whatever stands behind it; the string is accepted, and
-- nothing but strings is; a string has at most so many bytes, and each of them is a byte
pub record Sound (L : Meaning) : Type 0 where
  pub back :
      (xs rest : List ℕ) → Narrow L.reach xs → length xs ≤ most → L.numbers (L.string xs ++ rest) (length xs) ≡ xs
  pub accepts :
      (xs rest : List ℕ) → Narrow L.reach xs → length xs ≤ most
      → L.verdict (L.string xs ++ rest) (length xs) ≡ Ok (length (L.string xs))
  pub exactly :
      (bytes : List ℕ) (m n : ℕ) → Narrow 8 bytes → m ≤ most → L.verdict bytes m ≡ Ok n → Begins L bytes m n
  pub small :
      (xs : List ℕ) → Narrow L.reach xs → length xs ≤ most → length (L.string xs) ≤ (length xs + 16) * L.reach
  pub bytes : (xs : List ℕ) → Narrow L.reach xs → length xs ≤ most → Narrow 8 (L.string xs)

-- the verdict v where a test passes, and its fault at the top level where it fails
abbrev pub passing : Bool → Test → Result ℕ ListFault → Result ℕ ListFault
passing passes test v = cond passes v (Err (record { level = 0; test = test }))

-- the verdict of the list below carried up: its fault is one level deeper here, and v judges the length that it gives
abbrev pub below : Result ℕ ListFault → (ℕ → Result ℕ ListFault) → Result ℕ ListFault
below (Ok n) v = v n
below (Err fault) v = Err (record { level = fault.level + 1; test = fault.test })

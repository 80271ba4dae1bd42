-- What the calls of a list answer.
use Rattle.std.specs.Prelude.{ℕ, ◌+◌, ◌^◌, Bool, true, cond, ◌&&◌, List, ◌++◌, length, drop, Some, None, Ok, Err, Option, Result, nat_le, nat_lt}
use Rattle.std.specs.List.{list_all}
use Rattle.numlist.specs.Lists.{Meaning, most}
use Rattle.numlist.specs.declared.fault.ListFault.{ListFault}
use Rattle.numlist.specs.declared.refusal.CutRefused.{CutRefused}
use Rattle.numlist.specs.declared.refusal.OpenRefused.{OpenRefused}
use Rattle.numlist.specs.declared.refusal.WriteRefused.{WriteRefused}

-- each number has at most w bits
abbrev pub narrow : ℕ → List ℕ → Bool
narrow w xs = list_all (λ x. nat_lt x (2 ^ w)) xs

-- the answer to the wish to write numbers into so many bytes: the bytes that it takes, or the first reason against it
abbrev pub write_answer : Meaning → List ℕ → ℕ → Result ℕ WriteRefused
write_answer L xs bytes =
    cond (nat_le (length xs) most)
    (cond (narrow L.reach xs)
    (cond (nat_le (length (L.string xs)) bytes) (Ok (length (L.string xs))) (Err WriteRefused.NoRoom))
    (Err WriteRefused.TooLarge))
    (Err WriteRefused.TooMany)

-- all numbers came back where they were written, and otherwise why they were not
abbrev pub all_back : Result ℕ WriteRefused → Result Bool WriteRefused
all_back (Ok n) = Ok true
all_back (Err refusal) = Err refusal

-- the bytes that an accepted or a refused writing leaves: the string in front of what stood behind it, or all as it was
abbrev pub written : Meaning → List ℕ → List ℕ → Bool → List ℕ
written L xs out accepted = cond accepted (L.string xs ++ drop (length (L.string xs)) out) out

-- a verdict as an answer
abbrev pub judged : Result ℕ ListFault → Result ℕ OpenRefused
judged (Ok n) = Ok n
judged (Err fault) = Err (OpenRefused.Faulty fault)

-- the answer to the wish to open bytes as m numbers
abbrev pub open_answer : Meaning → List ℕ → ℕ → Result ℕ OpenRefused
open_answer L bytes m = cond (nat_le m most) (judged (L.verdict bytes m)) (Err OpenRefused.TooMany)

-- why a cut of so many bits over a list of this reach is not made
abbrev pub cut_refusal : ℕ → ℕ → Option CutRefused
cut_refusal bits reach =
    cond (nat_le 1 bits && nat_le bits 16) (cond (nat_le (bits + reach) 64) None (Some CutRefused.Reach)) (Some CutRefused.Width)

-- The cut: the low parts of the numbers, a mark for each, a directory of the marks, and the high parts in the list below.
use Rattle.std.specs.Prelude.{ℕ, ◌+◌, ◌*◌, Bool, true, ◌&&◌, List, [], ◌∷◌, ◌++◌, length, drop, Ok, sum, Result, nat_le, nat_lt}
use Rattle.std.specs.Str.{bytes_eq}
use Rattle.bits.specs.Packing.{room, packed, unpacked}
use Rattle.numlist.specs.Lists.{Meaning, passing, below}
use Rattle.numlist.specs.Fixed.{filled}
use Rattle.numlist.specs.Parts.{lows, marks, parts, entries, directory, weave}
use Rattle.numlist.specs.declared.fault.ListFault.{ListFault}
use Rattle.numlist.specs.declared.fault.Test.TheVariants.{TooFew, Fill, Directory, ZeroPart}

-- where the sections of m numbers begin behind their low parts: the marks, the directory, the list below
abbrev pub marks_at : ℕ → ℕ → ℕ
marks_at b m = room b m

abbrev pub directory_at : ℕ → ℕ → ℕ
directory_at b m = room b m + room 1 m

abbrev pub below_at : ℕ → ℕ → ℕ
below_at b m = room b m + room 1 m + 4 * entries m

-- the sections: low parts ls, marks ms, the directory of the marks, and then rest, the bytes of the list below
abbrev pub sections : ℕ → List ℕ → List ℕ → List ℕ → List ℕ
sections b ls ms rest = packed b ls ++ (packed 1 ms ++ (packed 32 (directory ms) ++ rest))

-- the marks and the directory that bytes show for m numbers, the number of 1 marks, and the bytes of the list below
abbrev pub marks_in : ℕ → List ℕ → ℕ → List ℕ
marks_in b bytes m = unpacked 1 m (drop (marks_at b m) bytes)

abbrev pub directory_in : ℕ → List ℕ → ℕ → List ℕ
directory_in b bytes m = unpacked 32 (entries m) (drop (directory_at b m) bytes)

abbrev pub ones_in : ℕ → List ℕ → ℕ → ℕ
ones_in b bytes m = sum (marks_in b bytes m)

abbrev pub below_in : ℕ → List ℕ → ℕ → List ℕ
below_in b bytes m = drop (below_at b m) bytes

-- the high parts that the list L below reads there: as many as there are 1 marks
abbrev pub highs_in : ℕ → Meaning → List ℕ → ℕ → List ℕ
highs_in b L bytes m = L.numbers (below_in b bytes m) (ones_in b bytes m)

-- no number is 0
unfoldable pub nonzero : List ℕ → Bool
nonzero [] = true
nonzero (h ∷ hs) = nat_lt 0 h && nonzero hs

-- the tests of a cut over L in their order: enough bytes for its own sections, fill bits, directory, the tests of the
-- list below, no high part of 0
abbrev pub verdict_of : ℕ → Meaning → List ℕ → ℕ → Result ℕ ListFault
verdict_of b L bytes m =
    passing (nat_le (below_at b m) (length bytes)) TooFew
    (passing (filled b m bytes && filled 1 m (drop (marks_at b m) bytes)) Fill
    (passing (bytes_eq (directory_in b bytes m) (directory (marks_in b bytes m))) Directory
    (below (L.verdict (below_in b bytes m) (ones_in b bytes m))
    (λ n. passing (nonzero (highs_in b L bytes m)) ZeroPart (Ok (below_at b m + n))))))

-- the list that keeps the b lowest bits of each number itself and gives the high parts to L
abbrev pub cut : ℕ → Meaning → Meaning
cut b L = record {
  reach = b + L.reach;
  string = λ xs. sections b (lows b xs) (marks b xs) (L.string (parts b xs));
  verdict = verdict_of b L;
  numbers = λ bytes m. weave b (unpacked b m bytes) (marks_in b bytes m) (highs_in b L bytes m);
}

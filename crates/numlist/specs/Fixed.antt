-- The fixed list: every number takes the same number of bits.
use Rattle.std.specs.Prelude.{ℕ, ◌*◌, ◌^◌, Bool, List, length, take, Ok, nat_le, nat_lt}
use Rattle.bits.specs.Packing.{value, room, packed, unpacked}
use Rattle.numlist.specs.Lists.{Meaning, passing}
use Rattle.numlist.specs.declared.fault.Test.TheVariants.{TooFew, Fill}

-- the fill bits behind m numbers of w bits, with which the bytes begin, are all 0
abbrev pub filled : ℕ → ℕ → List ℕ → Bool
filled w m bytes = nat_lt (value 8 (take (room w m) bytes)) (2 ^ (w * m))

-- the numbers of w bits, packed one after another
abbrev pub fixed : ℕ → Meaning
fixed w = record {
  reach = w;
  string = packed w;
  verdict = λ bytes m. passing (nat_le (room w m) (length bytes)) TooFew (passing (filled w m bytes) Fill (Ok (room w m)));
  numbers = λ bytes m. unpacked w m bytes;
}

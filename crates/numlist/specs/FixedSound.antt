-- The fixed list is sound. Assumes nothing.
use Rattle.std.specs.Prelude.{◌≡◌, ℕ, ◌≤◌, List, ◌++◌, length, Ok, nat_le, refl}
use Rattle.std.proofs.Common.{sym, ap, arith, length-append}
use Rattle.std.proofs.lemmas.Bool.{leb-true, le-leb}
use Rattle.bits.specs.Packing.{Narrow, room, packed}
use Rattle.bits.proofs.Packings.{length-packed, narrow-packed, length-unpacked, narrow-unpacked, unpacked-packed}
use Rattle.numlist.specs.Lists.{Sound, Begins, passing}
use Rattle.numlist.specs.Fixed.{fixed, filled}
use Rattle.numlist.specs.declared.fault.Test.TheVariants.{TooFew, Fill}
use Rattle.numlist.specs.Verdicts.{passing_ok}
use Rattle.numlist.specs.Sections.{section_filled, section_same}

fixed_accepts : (w : ℕ) (xs rest : List ℕ) → Narrow w xs → (fixed w).verdict (packed w xs ++ rest) (length xs) ≡ Ok (length (packed w xs))
fixed_accepts w xs rest narrow =
    let long = length-packed w xs in
    let enough = le-leb (room w (length xs)) (length (packed w xs ++ rest)) (simp length-append (omega arith)) in
    rw (enough, section_filled w (length xs) xs rest refl narrow) (ap Ok (sym long))

fixed_exactly : (w : ℕ) (bytes : List ℕ) (m n : ℕ) → Narrow 8 bytes → (fixed w).verdict bytes m ≡ Ok n → Begins (fixed w) bytes m n
fixed_exactly w bytes m n narrow e =
    let p = passing_ok (nat_le (room w m) (length bytes)) TooFew (passing (filled w m bytes) Fill (Ok (room w m))) n e in
    let q = passing_ok (filled w m bytes) Fill (Ok (room w m)) n p.1 in
    let within = leb-true (room w m) (length bytes) p.0 in
    let all : room w m ≡ n = cc in
    record {
      within = rw (sym all) within;
      count = length-unpacked w m bytes;
      narrow = narrow-unpacked w m bytes;
      same = rw (sym all) (section_same w m bytes narrow within q.0);
    }

pub fixed_sound : (w : ℕ) → 1 ≤ w → Sound (fixed w)
fixed_sound w some = record {
  back = λ xs rest narrow few. unpacked-packed w xs rest narrow;
  accepts = λ xs rest narrow few. fixed_accepts w xs rest narrow;
  exactly = λ bytes m n narrow few e. fixed_exactly w bytes m n narrow e;
  small = λ xs narrow few. rw (length-packed w xs) (omega arith);
  bytes = λ xs narrow few. narrow-packed w xs;
}

-- a fixed list keeps to 64 bits
pub fixed_within : (w : ℕ) → w ≤ 48 → (fixed w).reach ≤ 64
fixed_within w small = omega arith

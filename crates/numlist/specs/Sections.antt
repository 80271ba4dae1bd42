-- A section of packed numbers at the front of bytes. Assumes nothing.
use Rattle.std.specs.Prelude.{◌≡◌, ℕ, ◌*◌, ◌^◌, ◌<◌, ◌≤◌, true, List, ◌++◌, length, take, drop}
use Rattle.std.proofs.Common.{sym, ap, subst, ◌∙◌, arith, drop_at}
use Rattle.std.proofs.lemmas.Bool.{lt-ltb, ltb-true}
use Rattle.bits.specs.Packing.{value, Narrow, room, packed, unpacked}
use Rattle.bits.proofs.Packings.{front_narrow, length-packed, unpacked-packed, filled-packed, packed-unpacked}
use Rattle.numlist.specs.Fixed.{filled}

pub section_long : (w m : ℕ) (xs : List ℕ) → length xs ≡ m → length (packed w xs) ≡ room w m
section_long w m xs count = length-packed w xs ∙ ap (room w) count

-- what m packed numbers show, whatever stands behind them
module _ (w m : ℕ) (xs rest : List ℕ) (count : length xs ≡ m) (narrow : Narrow w xs) where
  pub section_read : unpacked w m (packed w xs ++ rest) ≡ xs
  section_read = subst (λ n. unpacked w n (packed w xs ++ rest) ≡ xs) count (unpacked-packed w xs rest narrow)

  pub section_filled : filled w m (packed w xs ++ rest) ≡ true
  section_filled =
      let small : value 8 (take (room w m) (packed w xs ++ rest)) < 2 ^ (w * m) =
      subst (λ n. value 8 (take (room w n) (packed w xs ++ rest)) < 2 ^ (w * n)) count (filled-packed w xs rest narrow)
      in
      lt-ltb (value 8 (take (room w m) (packed w xs ++ rest))) (2 ^ (w * m)) small

  pub section_behind : drop (room w m) (packed w xs ++ rest) ≡ rest
  section_behind = drop_at (packed w xs) rest (room w m) (section_long w m xs count)

-- bytes with fill bits of 0 begin with the numbers that they show
pub section_same :
    (w m : ℕ) (bytes : List ℕ) → Narrow 8 bytes → room w m ≤ length bytes → filled w m bytes ≡ true
    → take (room w m) bytes ≡ packed w (unpacked w m bytes)
section_same w m bytes narrow within fill =
    sym (packed-unpacked w m bytes narrow within (ltb-true (value 8 (take (room w m) bytes)) (2 ^ (w * m)) fill))

-- whole bytes have no fill bits: numbers of 32 bits
pub words_filled : (m : ℕ) (bytes : List ℕ) → Narrow 8 bytes → room 32 m ≤ length bytes → filled 32 m bytes ≡ true
words_filled m bytes narrow within =
    let whole : 8 * room 32 m ≡ 32 * m = omega arith in
    let small = front_narrow 8 (room 32 m) bytes within narrow in
    lt-ltb (value 8 (take (room 32 m) bytes)) (2 ^ (32 * m)) (rw whole at small)

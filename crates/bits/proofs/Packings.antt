-- Packing and unpacking undo each other, and how a front of bytes stands to the number that all of them come to. Assumes nothing.
use Rattle.std.proofs.Common.{◌≡◌, ℕ, ◌+◌, ◌-◌, ◌*◌, ◌/◌, ◌%◌, ◌^◌, ◌<◌, ◌≤◌, List, ◌++◌, length, take, drop, sym, ap, ◌∙◌, lt_of_lt_of_le, mod-eq_of_lt, arith, take-append-drop, length-take-le, take_at, pow_mono}
use lib.Pow.{high, low, mod-mod-pow}
use Rattle.std.proofs.ByRecursion.{All-take}
use Rattle.bits.specs.Packing.{value, digits, Narrow, room, packed, unpacked}
use Rattle.bits.proofs.Digits.{length_digits, narrow-digits, value-digits, digits_value, value-narrow, value-append}

-- a number cut at a digit: a front and what is behind it
module _ (w k : ℕ) (xs : List ℕ) (within : k ≤ length xs) (narrow : Narrow w xs) where
  pub front_narrow : value w (take k xs) < 2 ^ (w * k)
  front_narrow =
      let h = value-narrow w (take k xs) (All-take (λ x. x < 2 ^ w) k xs narrow) in
      rw (length-take-le k xs within) at h

  cut_at : value w xs ≡ value w (drop k xs) * 2 ^ (w * k) + value w (take k xs)
  cut_at =
      ap (value w) (sym (take-append-drop k xs))
      ∙ value-append w (take k xs) (drop k xs)
      ∙ ap (λ n. value w (drop k xs) * 2 ^ (w * n) + value w (take k xs)) (length-take-le k xs within)

  pub value-take : value w (take k xs) ≡ value w xs % 2 ^ (w * k)
  value-take = sym (ap (λ n. n % 2 ^ (w * k)) cut_at ∙ low (value w (drop k xs)) (w * k) front_narrow)

  pub value-drop : value w (drop k xs) ≡ value w xs / 2 ^ (w * k)
  value-drop = sym (ap (λ n. n / 2 ^ (w * k)) cut_at ∙ high (value w (drop k xs)) (w * k) front_narrow)

-- the lowest digits are those of the remainder
digits_low : (w k n : ℕ) → digits w k (n % 2 ^ (w * k)) ≡ digits w k n
digits_low w k n =
    let e = digits_value w (digits w k n) (narrow-digits w k n) in
    rw (length_digits, value-digits) at e

-- the remainder at fewer bits, of the remainder at more
pub mod_fewer : (n : ℕ) {a b : ℕ} → a ≤ b → n % 2 ^ b % 2 ^ a ≡ n % 2 ^ a
mod_fewer n {a} {b} h = let e : b ≡ (b - a) + a = omega arith in ap (λ c. n % 2 ^ c % 2 ^ a) e ∙ mod-mod-pow n (b - a) a

-- the bytes have at least the bits of the numbers
bits_within : (w m : ℕ) → w * m ≤ 8 * room w m
bits_within w m = omega arith

pub length-packed : (w : ℕ) (xs : List ℕ) → length (packed w xs) ≡ room w (length xs)
length-packed w xs = length_digits 8 (room w (length xs)) (value w xs)

pub narrow-packed : (w : ℕ) (xs : List ℕ) → Narrow 8 (packed w xs)
narrow-packed w xs = narrow-digits 8 (room w (length xs)) (value w xs)

pub length-unpacked : (w m : ℕ) (bytes : List ℕ) → length (unpacked w m bytes) ≡ m
length-unpacked w m bytes = length_digits w m (value 8 bytes)

pub narrow-unpacked : (w m : ℕ) (bytes : List ℕ) → Narrow w (unpacked w m bytes)
narrow-unpacked w m bytes = narrow-digits w m (value 8 bytes)

-- bytes that begin with packed numbers
module _ (w : ℕ) (xs rest : List ℕ) (narrow : Narrow w xs) where
  small : value w xs < 2 ^ (8 * room w (length xs))
  small = lt_of_lt_of_le (value-narrow w xs narrow) (pow_mono (bits_within w (length xs)))

  value-packed : value 8 (packed w xs) ≡ value w xs
  value-packed = value-digits 8 (room w (length xs)) (value w xs) ∙ mod-eq_of_lt small

  front : value 8 (packed w xs ++ rest) % 2 ^ (8 * room w (length xs)) ≡ value w xs
  front =
      ap (λ n. n % 2 ^ (8 * room w (length xs))) (value-append 8 (packed w xs) rest)
      ∙ rw (length-packed w xs, value-packed) (low (value 8 rest) (8 * room w (length xs)) small)

  pub unpacked-packed : unpacked w (length xs) (packed w xs ++ rest) ≡ xs
  unpacked-packed =
      let all = value 8 (packed w xs ++ rest) in
      sym (digits_low w (length xs) all)
      ∙ ap (digits w (length xs)) (sym (mod_fewer all (bits_within w (length xs))) ∙ ap (λ n. n % 2 ^ (w * length xs)) front)
      ∙ digits_low w (length xs) (value w xs)
      ∙ digits_value w xs narrow

  -- their fill bits are 0
  pub filled-packed : value 8 (take (room w (length xs)) (packed w xs ++ rest)) < 2 ^ (w * length xs)
  filled-packed = rw (take_at (packed w xs) rest (room w (length xs)) (length-packed w xs), value-packed) (value-narrow w xs narrow)

-- bytes whose fill bits are 0
module _ (w m : ℕ) (bytes : List ℕ) (narrow : Narrow 8 bytes) (within : room w m ≤ length bytes) where
  pub packed-unpacked : value 8 (take (room w m) bytes) < 2 ^ (w * m) → packed w (unpacked w m bytes) ≡ take (room w m) bytes
  packed-unpacked filled =
      let front = take (room w m) bytes in
      let value_of : value w (unpacked w m bytes) ≡ value 8 front =
      value-digits w m (value 8 bytes)
      ∙ sym (mod_fewer (value 8 bytes) (bits_within w m))
      ∙ ap (λ n. n % 2 ^ (w * m)) (sym (value-take 8 (room w m) bytes within narrow))
      ∙ mod-eq_of_lt filled
      in
      let e = digits_value 8 front (All-take (λ x. x < 2 ^ 8) (room w m) bytes narrow) in
      rw (length-unpacked w m bytes, value_of) (rw (length-take-le (room w m) bytes within) at e)

-- One number of a cut, read by its parts. Assumes nothing.
use Rattle.std.proofs.Common.{◌≡◌, ℕ, ◌+◌, ◌*◌, ◌/◌, ◌%◌, ◌^◌, ◌<◌, ◌≤◌, Bool, true, false, List, length, get_or, take, drop, Ok, sum, sym, ap, ◌∙◌, ⊎_elim, mod-eq_of_lt, mul-le-mul, arith, pow_pos}
use native.Mathlib.Nat.{add-mul-mod_self_right}
use lib.Bits.{bit_or}
use lib.Pow.{split}
use Rattle.std.proofs.ByRecursion.{All-get_or, All-drop}
use Rattle.std.proofs.lemmas.List.Sums.{sum_by_more, sum_by-take-le}
use Rattle.std.proofs.lemmas.Bool.{cases_eq}
use Rattle.bits.specs.Packing.{unpacked, Narrow}
use Rattle.bits.proofs.Packings.{length-unpacked, narrow-unpacked}
use Rattle.bits.proofs.Writings.{low_word}
use Rattle.numlist.specs.Lists.{Meaning, Sound, most}
use Rattle.numlist.specs.Cuts.{marks_at, below_at, marks_in, ones_in, below_in, highs_in, nonzero, verdict_of, cut}
use Rattle.numlist.specs.Placed.{NoEmpty, low_with_mark}
use Rattle.numlist.specs.CutSound.{cut_sound}
use Rattle.numlist.specs.CutVerdicts.{Passed, passed}
use Rattle.numlist.specs.Directories.{sum-narrow}
use Rattle.numlist.specs.Weaving.{get_or-weave}
use Rattle.numlist.proofs.Zeros.{no_zeros}

-- numbers before and behind a word
regroup : (l p q m r : ℕ) → l + p * (1 * (q * m + r)) ≡ (r * p + l) + (p * q) * m
regroup l p q m r = omega arith

module _ (b : ℕ) (L : Meaning) (bytes : List ℕ) (m i : ℕ) (inside : i < m) where
  long : length (marks_in b bytes m) ≡ m
  long = length-unpacked 1 m (drop (marks_at b m) bytes)

  number_at :
      get_or ((cut b L).numbers bytes m) i 0
      ≡ get_or (unpacked b m bytes) i 0 + 2 ^ b * (get_or (marks_in b bytes m) i 0 * get_or (highs_in b L bytes m) (sum (take i (marks_in b bytes m))) 0)
  number_at =
      get_or-weave b (unpacked b m bytes) (marks_in b bytes m) (highs_in b L bytes m) i
      (length-unpacked b m bytes ∙ sym long) (omega (arith, length-unpacked b m bytes))

  bit : get_or (marks_in b bytes m) i 0 < 2
  bit = All-get_or (λ x. x < 2 ^ 1) (marks_in b bytes m) i 0 (omega (arith, long)) (narrow-unpacked 1 m (drop (marks_at b m) bytes))

  unmarked : get_or (marks_in b bytes m) i 0 ≡ 0 → get_or ((cut b L).numbers bytes m) i 0 ≡ get_or (unpacked b m bytes) i 0
  unmarked none =
      number_at
      ∙ ap (λ k. get_or (unpacked b m bytes) i 0 + 2 ^ b * (k * get_or (highs_in b L bytes m) (sum (take i (marks_in b bytes m))) 0)) none
      ∙ omega arith

  marked_one : (get_or (marks_in b bytes m) i 0 ≡ 0 → ⊥) → get_or ((cut b L).numbers bytes m) i 0 ≡ get_or (unpacked b m bytes) i 0 + 2 ^ b * (1 * get_or (highs_in b L bytes m) (sum (take i (marks_in b bytes m))) 0)
  marked_one some =
      let one : get_or (marks_in b bytes m) i 0 ≡ 1 = omega (arith, bit) in
      number_at
      ∙ ap (λ k. get_or (unpacked b m bytes) i 0 + 2 ^ b * (k * get_or (highs_in b L bytes m) (sum (take i (marks_in b bytes m))) 0)) one

  -- the high part of a marked number is one of those that there are
  pub rank_inside : (get_or (marks_in b bytes m) i 0 ≡ 0 → ⊥) → sum (take i (marks_in b bytes m)) < ones_in b bytes m
  rank_inside some =
      omega (arith, sum_by_more (λ x. x) (marks_in b bytes m) i 0 (omega (arith, long)), sum_by-take-le (λ x. x) (marks_in b bytes m) (i + 1))

  pub read_unmarked : (low : ℕ) → low ≡ get_or (unpacked b m bytes) i 0 → low < 2 ^ 64 → get_or (marks_in b bytes m) i 0 ≡ 0 → low ≡ get_or ((cut b L).numbers bytes m) i 0 % 2 ^ 64
  read_unmarked low is small none = sym (mod-eq_of_lt small) ∙ ap (λ n. n % 2 ^ 64) (is ∙ sym (unmarked none))

  pub read_marked :
      (low high rank : ℕ) → low ≡ get_or (unpacked b m bytes) i 0 → low < 2 ^ b → b < 64 → (get_or (marks_in b bytes m) i 0 ≡ 0 → ⊥)
      → rank ≡ sum (take i (marks_in b bytes m)) → high ≡ get_or (highs_in b L bytes m) rank 0 % 2 ^ 64
      → bit_or low ((high * 2 ^ b) % 2 ^ 64) ≡ get_or ((cut b L).numbers bytes m) i 0 % 2 ^ 64
  read_marked low high rank is small wide some place part =
      let h = get_or (highs_in b L bytes m) rank 0 in
      low_word high b low wide small
      ∙ ap (λ k. (k * 2 ^ b + low) % 2 ^ 64) part
      ∙ sym (add-mul-mod_self_right ((h % 2 ^ 64) * 2 ^ b + low) (2 ^ b * (h / 2 ^ 64)) (2 ^ 64))
      ∙ ap (λ n. n % 2 ^ 64)
      (sym (regroup low (2 ^ b) (h / 2 ^ 64) (2 ^ 64) (h % 2 ^ 64))
      ∙ ap (λ n. low + 2 ^ b * (1 * n)) (split h 64)
      ∙ (λ j. is j + 2 ^ b * (1 * get_or (highs_in b L bytes m) (place j) 0))
      ∙ sym (marked_one some))

-- accepted bytes: a number is 0 where its low part and its mark are
module _ (b : ℕ) (L : Meaning) (some : 1 ≤ b) (sound : Sound L) (bytes : List ℕ) (m n : ℕ) (narrow : Narrow 8 bytes) (few : m ≤ most) (accepted : verdict_of b L bytes m ≡ Ok n) where
  p : Passed b L bytes m n
  p = passed b L bytes m n accepted

  few_ones : ones_in b bytes m ≤ m
  few_ones =
      let rest = drop (marks_at b m) bytes in
      omega (arith, sum-narrow (marks_in b bytes m) (narrow-unpacked 1 m rest), length-unpacked 1 m rest)

  highs_count : length (highs_in b L bytes m) ≡ ones_in b bytes m
  highs_count =
      (sound.exactly (below_in b bytes m) (ones_in b bytes m) p.taken (All-drop (λ x. x < 2 ^ 8) (below_at b m) bytes narrow) (omega (arith, few_ones)) p.accepted_below).count

  count : length ((cut b L).numbers bytes m) ≡ m
  count = ((cut_sound b L some sound).exactly bytes m n narrow few accepted).count

  zero_there : (i : ℕ) → i < m → low_with_mark b m bytes i ≡ 0 → get_or ((cut b L).numbers bytes m) i 0 ≡ 0
  zero_there i h e = unmarked b L bytes m i h (omega arith) ∙ omega arith

  none_there : (i : ℕ) → i < m → (low_with_mark b m bytes i ≡ 0 → ⊥) → 0 < get_or ((cut b L).numbers bytes m) i 0
  none_there i h some-bit =
      ⊎_elim
      (λ e. omega (arith, unmarked b L bytes m i h e))
      (λ e.
      let rank = sum (take i (marks_in b bytes m)) in
      let high = All-get_or (λ x. 0 < x) (highs_in b L bytes m) rank 0 (omega (arith, rank_inside b L bytes m i h e, highs_count)) p.positive in
      let one : 1 ≤ 1 * get_or (highs_in b L bytes m) rank 0 = omega arith in
      let more : 1 * 1 ≤ 2 ^ b * (1 * get_or (highs_in b L bytes m) rank 0) = mul-le-mul (pow_pos b) one in
      omega (arith, marked_one b L bytes m i h e))
      (cases_eq (get_or (marks_in b bytes m) i 0) 0)

  pub no_zero : (r : Bool) → NoEmpty b m bytes r → r ≡ nonzero ((cut b L).numbers bytes m)
  no_zero true each =
      no_zeros m ((cut b L).numbers bytes m) count true (λ i h e. let some = none_there i h (each i h) in omega (arith, some, e))
  no_zero false (i, h, e) = no_zeros m ((cut b L).numbers bytes m) count false (i, h, zero_there i h e)

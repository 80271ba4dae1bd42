-- The string of a cut over a sound list: it reads back, is accepted, is small and has bytes. Assumes nothing.
use Rattle.std.specs.Prelude.{◌≡◌, ℕ, ◌+◌, ◌*◌, ◌%◌, ◌^◌, ◌<◌, ◌≤◌, true, cond, List, ◌++◌, length, Ok, sum}
use Rattle.std.proofs.Common.{sym, ap, ◌∙◌, mul-le-mul_right, arith}
use mathlib.Core.List.{append_assoc}
use Rattle.std.proofs.lemmas.List.{length-map}
use Rattle.std.specs.Str.{bytes_eq}
use Rattle.std.proofs.ByRecursion.{All-append}
use Rattle.std.proofs.lemmas.Slice.Eq.{bytes_eq-Decides}
use Rattle.std.proofs.lemmas.Bool.{le-leb}
use Rattle.bits.specs.Packing.{Narrow, packed}
use Rattle.bits.proofs.Packings.{narrow-packed}
use Rattle.numlist.specs.Lists.{Meaning, Sound, most}
use Rattle.numlist.specs.Parts.{lows, marked, marks, parts, directory, weave}
use Rattle.numlist.specs.Cuts.{below_at, marks_in, directory_in, ones_in, below_in, highs_in, nonzero, cut}
use Rattle.numlist.specs.CutSections.{Shows, shows, sections_long}
use Rattle.numlist.specs.CutVerdicts.{nonzero_decides}
use Rattle.numlist.specs.Directories.{sum-narrow}
use Rattle.numlist.specs.Highs.{sum_marks, narrow_lows, narrow_marks, narrow_parts, positive_parts}
use Rattle.numlist.specs.Weaving.{weave_back}

-- the string of numbers
module _ (b : ℕ) (L : Meaning) (sound : Sound L) (xs : List ℕ) (narrow : Narrow (b + L.reach) xs) (few : length xs ≤ most) where
  count_lows : length (lows b xs) ≡ length xs
  count_lows = length-map xs (λ x. x % 2 ^ b)

  count_marks : length (marks b xs) ≡ length xs
  count_marks = length-map xs (λ x. cond (marked b x) 1 0)

  narrow_highs : Narrow L.reach (parts b xs)
  narrow_highs = narrow_parts b L.reach xs narrow

  few_parts : length (parts b xs) ≤ length xs
  few_parts = omega (arith, sum_marks b xs, sum-narrow (marks b xs) (narrow_marks b xs), count_marks)

  cut_long : length ((cut b L).string xs) ≡ below_at b (length xs) + length (L.string (parts b xs))
  cut_long = sections_long b (length xs) (lows b xs) (marks b xs) (L.string (parts b xs)) count_lows count_marks

  -- with any bytes behind it
  module _ (rest : List ℕ) where
    whole : List ℕ
    whole = (cut b L).string xs ++ rest

    shown : Shows b (length xs) (lows b xs) (marks b xs) (L.string (parts b xs) ++ rest) whole
    unfolding whole
    shown =
        simp append_assoc
        (shows b (length xs) (lows b xs) (marks b xs) (L.string (parts b xs) ++ rest) count_lows count_marks (narrow_lows b xs)
        (narrow_marks b xs) few)

    highs_read : highs_in b L whole (length xs) ≡ parts b xs
    highs_read =
        (λ i. L.numbers (shown.behind i) (sum (shown.its_marks i)))
        ∙ ap (L.numbers (L.string (parts b xs) ++ rest)) (sum_marks b xs)
        ∙ sound.back (parts b xs) rest narrow_highs (omega (arith, few_parts))

    verdict_below : L.verdict (below_in b whole (length xs)) (ones_in b whole (length xs)) ≡ Ok (length (L.string (parts b xs)))
    verdict_below =
        (λ i. L.verdict (shown.behind i) (sum (shown.its_marks i)))
        ∙ ap (L.verdict (L.string (parts b xs) ++ rest)) (sum_marks b xs)
        ∙ sound.accepts (parts b xs) rest narrow_highs (omega (arith, few_parts))

    entries_same : bytes_eq (directory_in b whole (length xs)) (directory (marks_in b whole (length xs))) ≡ true
    entries_same =
        (bytes_eq-Decides (directory_in b whole (length xs)) (directory (marks_in b whole (length xs)))).1
        (shown.its_directory ∙ ap directory (sym shown.its_marks))

    no_zero : nonzero (highs_in b L whole (length xs)) ≡ true
    no_zero = ap nonzero highs_read ∙ (nonzero_decides (parts b xs)).1 (positive_parts b xs)

    pub cut_back : (cut b L).numbers ((cut b L).string xs ++ rest) (length xs) ≡ xs
    unfolding whole
    cut_back = (λ i. weave b (shown.low_parts i) (shown.its_marks i) (highs_read i)) ∙ weave_back b xs

    pub cut_accepts : (cut b L).verdict ((cut b L).string xs ++ rest) (length xs) ≡ Ok (length ((cut b L).string xs))
    unfolding whole
    cut_accepts =
        let enough = le-leb (below_at b (length xs)) (length whole) shown.enough in
        rw (enough, shown.fills, entries_same, verdict_below, no_zero) (ap Ok (sym cut_long))

  pub cut_small : 1 ≤ b → length ((cut b L).string xs) ≤ (length xs + 16) * (b + L.reach)
  cut_small some =
      let own : 1 * length xs ≤ b * length xs = mul-le-mul_right (length xs) some in
      let rest = sound.small (parts b xs) narrow_highs (omega (arith, few_parts)) in
      let fewer : length (parts b xs) * L.reach ≤ length xs * L.reach = mul-le-mul_right L.reach few_parts in
      omega (arith, cut_long)

  pub cut_bytes : Narrow 8 ((cut b L).string xs)
  cut_bytes =
      let Byte : ℕ → Type 0 = λ x. x < 2 ^ 8 in
      let ls = packed b (lows b xs) in
      let ms = packed 1 (marks b xs) in
      let ds = packed 32 (directory (marks b xs)) in
      let hs = L.string (parts b xs) in
      let bytes_below = sound.bytes (parts b xs) narrow_highs (omega (arith, few_parts)) in
      All-append Byte ls (ms ++ (ds ++ hs)) (narrow-packed b (lows b xs))
      (All-append Byte ms (ds ++ hs) (narrow-packed 1 (marks b xs))
      (All-append Byte ds hs (narrow-packed 32 (directory (marks b xs))) bytes_below))

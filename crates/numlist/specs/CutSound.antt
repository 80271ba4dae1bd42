-- A cut over a sound list is sound. Assumes nothing.
use Rattle.std.specs.Prelude.{◌≡◌, ℕ, ◌+◌, ◌*◌, ◌%◌, ◌^◌, ◌<◌, ◌≤◌, List, ◌++◌, length, take, drop}
use Rattle.std.proofs.Common.{sym, ap, ◌∙◌, append_assoc, arith, length-drop, take-add}
use Rattle.std.proofs.lemmas.List.{length-map}
use Rattle.std.proofs.ByRecursion.{All-drop}
use Rattle.bits.specs.Packing.{Narrow, room, packed, unpacked}
use Rattle.bits.proofs.Packings.{length-unpacked, narrow-unpacked}
use Rattle.numlist.specs.Lists.{Meaning, Sound, Begins, most}
use Rattle.numlist.specs.Parts.{entries, directory}
use Rattle.numlist.specs.Cuts.{marks_at, directory_at, below_at, marks_in, ones_in, below_in, highs_in, sections, cut}
use Rattle.numlist.specs.CutStrings.{cut_back, cut_accepts, cut_small, cut_bytes}
use Rattle.numlist.specs.CutVerdicts.{Passed, passed}
use Rattle.numlist.specs.Directories.{sum-narrow}
use Rattle.numlist.specs.Sections.{section_same, words_filled}
use Rattle.numlist.specs.Weaving.{Woven, weave_woven}

-- a front of bytes in four pieces
four-pieces :
    (i j k n : ℕ) (xs : List ℕ) → take (i + j + k + n) xs
    ≡ take i xs ++ (take j (drop i xs) ++ (take k (drop (i + j) xs) ++ take n (drop (i + j + k) xs)))
four-pieces i j k n xs = rw (take-add (i + j + k) n xs, take-add (i + j) k xs, take-add i j xs) (simp append_assoc)

-- bytes that the cut accepts
module _
    (b : ℕ) (L : Meaning) (sound : Sound L) (bytes : List ℕ) (m n : ℕ) (narrow : Narrow 8 bytes) (few : m ≤ most)
    (p : Passed b L bytes m n) where
  few_marks : ones_in b bytes m ≤ m
  few_marks =
      let rest = drop (marks_at b m) bytes in
      omega (arith, sum-narrow (marks_in b bytes m) (narrow-unpacked 1 m rest), length-unpacked 1 m rest)

  narrow_from : (i : ℕ) → Narrow 8 (drop i bytes)
  narrow_from i = All-drop (λ x. x < 2 ^ 8) i bytes narrow

  begins_below : Begins L (below_in b bytes m) (ones_in b bytes m) p.taken
  begins_below =
      sound.exactly (below_in b bytes m) (ones_in b bytes m) p.taken (narrow_from (below_at b m)) (omega (arith, few_marks))
      p.accepted_below

  woven : Woven b L.reach (unpacked b m bytes) (marks_in b bytes m) (highs_in b L bytes m) ((cut b L).numbers bytes m)
  woven =
      weave_woven b L.reach (unpacked b m bytes) (marks_in b bytes m) (highs_in b L bytes m) (narrow-unpacked b m bytes)
      (narrow-unpacked 1 m (drop (marks_at b m) bytes))
      (length-unpacked b m bytes ∙ sym (length-unpacked 1 m (drop (marks_at b m) bytes)))
      begins_below.count p.positive begins_below.narrow

  lows_same : take (room b m) bytes ≡ packed b (unpacked b m bytes)
  lows_same = section_same b m bytes narrow (omega (arith, p.enough)) p.lows_filled

  marks_same : take (room 1 m) (drop (marks_at b m) bytes) ≡ packed 1 (marks_in b bytes m)
  marks_same =
      section_same 1 m (drop (marks_at b m) bytes) (narrow_from (marks_at b m))
      (omega (arith, length-drop (marks_at b m) bytes, p.enough)) p.marks_filled

  directory_same : take (4 * entries m) (drop (directory_at b m) bytes) ≡ packed 32 (directory (marks_in b bytes m))
  directory_same =
      let rest = drop (directory_at b m) bytes in
      let within : room 32 (entries m) ≤ length rest = omega (arith, length-drop (directory_at b m) bytes, p.enough) in
      let words : 4 * entries m ≡ room 32 (entries m) = omega arith in
      let narrow_rest = narrow_from (directory_at b m) in
      ap (λ k. take k rest) words
      ∙ section_same 32 (entries m) rest narrow_rest within (words_filled (entries m) rest narrow_rest within)
      ∙ ap (packed 32) p.entries_same

  same_string : take n bytes ≡ (cut b L).string ((cut b L).numbers bytes m)
  same_string =
      let xs = (cut b L).numbers bytes m in
      let its-sections : (cut b L).string xs ≡ sections b (unpacked b m bytes) (marks_in b bytes m) (L.string (highs_in b L bytes m)) =
      λ i. sections b (woven.low_parts i) (woven.its_marks i) (L.string (woven.high_parts i))
      in
      ap (λ k. take k bytes) (sym p.total)
      ∙ four-pieces (room b m) (room 1 m) (4 * entries m) p.taken bytes
      ∙ (λ i. lows_same i ++ (marks_same i ++ (directory_same i ++ begins_below.same i)))
      ∙ sym its-sections

  cut_begins : Begins (cut b L) bytes m n
  cut_begins = record {
    within = omega (arith, begins_below.within, length-drop (below_at b m) bytes, p.enough, p.total);
    count = sym (length-map ((cut b L).numbers bytes m) (λ x. x % 2 ^ b)) ∙ ap length woven.low_parts ∙ length-unpacked b m bytes;
    narrow = woven.narrow;
    same = same_string;
  }

pub cut_sound : (b : ℕ) (L : Meaning) → 1 ≤ b → Sound L → Sound (cut b L)
cut_sound b L some sound = record {
  back = λ xs rest narrow few. cut_back b L sound xs narrow few rest;
  accepts = λ xs rest narrow few. cut_accepts b L sound xs narrow few rest;
  exactly = λ bytes m n narrow few e. cut_begins b L sound bytes m n narrow few (passed b L bytes m n e);
  small = λ xs narrow few. cut_small b L sound xs narrow few some;
  bytes = λ xs narrow few. cut_bytes b L sound xs narrow few;
}

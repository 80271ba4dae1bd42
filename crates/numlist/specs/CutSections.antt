-- The sections of a cut in bytes: what a cut reads in them. Assumes nothing.
use Rattle.std.specs.Prelude.{◌≡◌, ℕ, ◌+◌, ◌*◌, ◌≤◌, true, ◌&&◌, List, ◌++◌, length, drop}
use Rattle.std.proofs.Math.Path.{sym, ap}
use Rattle.std.proofs.Common.{◌∙◌, length-append, drop-drop}
use native.Mathlib.Omega.{arith}
use Rattle.std.proofs.lemmas.Bool.{and_from}
use Rattle.bits.specs.Packing.{Narrow, room, packed, unpacked}
use Rattle.numlist.specs.Lists.{most}
use Rattle.numlist.specs.Parts.{entries, directory}
use Rattle.numlist.specs.Fixed.{filled}
use Rattle.numlist.specs.Cuts.{marks_at, directory_at, below_at, marks_in, directory_in, below_in, sections}
use Rattle.numlist.specs.Directories.{length-directory, narrow-directory}
use Rattle.numlist.specs.Sections.{section_read, section_filled, section_long, section_behind}

-- bytes begin with the sections of m low parts and marks, and then go on with rest
pub record Shows (b m : ℕ) (ls ms rest bytes : List ℕ) : Type 0 where
  pub low_parts : unpacked b m bytes ≡ ls
  pub its_marks : marks_in b bytes m ≡ ms
  pub its_directory : directory_in b bytes m ≡ directory ms
  pub fills : (filled b m bytes && filled 1 m (drop (marks_at b m) bytes)) ≡ true
  pub behind : below_in b bytes m ≡ rest
  pub enough : below_at b m ≤ length bytes

entries-count : (m : ℕ) (ms : List ℕ) → length ms ≡ m → length (directory ms) ≡ entries m
entries-count m ms count = length-directory ms ∙ ap entries count

pub sections_long :
    (b m : ℕ) (ls ms rest : List ℕ) → length ls ≡ m → length ms ≡ m → length (sections b ls ms rest) ≡ below_at b m + length rest
sections_long b m ls ms rest count-ls count-ms =
    let lows_long = section_long b m ls count-ls in
    let marks_long = section_long 1 m ms count-ms in
    let entries-long = section_long 32 (entries m) (directory ms) (entries-count m ms count-ms) in
    simp length-append (omega arith)

module _
    (b m : ℕ) (ls ms rest : List ℕ) (count-ls : length ls ≡ m) (count-ms : length ms ≡ m)
    (narrow-ls : Narrow b ls) (narrow-ms : Narrow 1 ms) (few : m ≤ most) where
  narrow_entries : Narrow 32 (directory ms)
  narrow_entries = narrow-directory ms narrow-ms (omega arith)

  from_directory : List ℕ
  from_directory = packed 32 (directory ms) ++ rest

  from_marks : List ℕ
  from_marks = packed 1 ms ++ from_directory

  from_lows : List ℕ
  from_lows = packed b ls ++ from_marks

  behind_lows : drop (marks_at b m) from_lows ≡ from_marks
  unfolding from_lows
  behind_lows = section_behind b m ls from_marks count-ls narrow-ls

  behind_marks : drop (directory_at b m) from_lows ≡ from_directory
  unfolding from_marks
  behind_marks =
      sym (drop-drop (room 1 m) (room b m) from_lows)
      ∙ ap (drop (room 1 m)) behind_lows
      ∙ section_behind 1 m ms from_directory count-ms narrow-ms

  behind_directory : below_in b from_lows m ≡ rest
  unfolding from_directory
  behind_directory =
      let four : 4 * entries m ≡ room 32 (entries m) = omega arith in
      sym (drop-drop (4 * entries m) (directory_at b m) from_lows)
      ∙ ap (drop (4 * entries m)) behind_marks
      ∙ ap (λ n. drop n from_directory) four
      ∙ section_behind 32 (entries m) (directory ms) rest (entries-count m ms count-ms) narrow_entries

  fills_lows : filled b m from_lows ≡ true
  unfolding from_lows
  fills_lows = section_filled b m ls from_marks count-ls narrow-ls

  fills_marks : filled 1 m (drop (marks_at b m) from_lows) ≡ true
  unfolding from_marks
  fills_marks = ap (filled 1 m) behind_lows ∙ section_filled 1 m ms from_directory count-ms narrow-ms

  pub shows : Shows b m ls ms rest (sections b ls ms rest)
  unfolding from_lows from_marks from_directory
  shows = record {
    low_parts = section_read b m ls from_marks count-ls narrow-ls;
    its_marks = ap (unpacked 1 m) behind_lows ∙ section_read 1 m ms from_directory count-ms narrow-ms;
    its_directory = ap (unpacked 32 (entries m)) behind_marks ∙ section_read 32 (entries m) (directory ms) rest (entries-count m ms count-ms) narrow_entries;
    fills = and_from (filled b m from_lows) (filled 1 m (drop (marks_at b m) from_lows)) fills_lows fills_marks;
    behind = behind_directory;
    enough = omega (arith, sections_long b m ls ms rest count-ls count-ms);
  }

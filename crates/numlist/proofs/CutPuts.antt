-- Putting a cut: its sections one behind another, and the list below. Assumes nothing.
use Rattle.std.proofs.Common.{◌≡◌, ℕ, zero, suc, ◌+◌, ◌%◌, ◌^◌, ◌≤◌, min, cond, List, [], ◌∷◌, ◌++◌, length, drop, sym, refl, ap, ◌∙◌, ⊎_elim, append_assoc, append-nil, arith, pow_mono}
use lib.ListN.{length-map}
use Rattle.std.proofs.lemmas.List.{drop_all, drop-drop}
use Rattle.std.proofs.lemmas.Bool.{cases_lt, lt-leb}
use Rattle.bits.specs.Packing.{Narrow, packed, unpacked}
use Rattle.numlist.specs.Lists.{Meaning}
use Rattle.numlist.specs.Parts.{lows, marked, marks, parts, above, directory}
use Rattle.numlist.specs.Cuts.{below_at, sections, cut}
use Rattle.numlist.specs.CutSections.{sections_long}
use Rattle.numlist.specs.Sections.{section_read}
use Rattle.numlist.specs.Highs.{parts-above}

-- numbers of 64 bits have nothing above
above_empty : (k : ℕ) (xs : List ℕ) → 64 ≤ k → Narrow 64 xs → above k xs ≡ []
above_empty zero xs h fits = absurd (omega arith)
above_empty (suc k) [] h fits = refl
above_empty (suc k) (x ∷ xs) h fits =
    let more : 2 ^ 64 ≤ 2 ^ suc k = pow_mono h in
    rw (lt-leb (2 ^ suc k) x (omega (arith, fits.0))) (above_empty (suc k) xs h fits.1)

above-min : (k : ℕ) (xs : List ℕ) → Narrow 64 xs → above (min 64 k) xs ≡ above k xs
above-min k xs fits =
    ⊎_elim
    (λ h. let e : min 64 k ≡ k = omega arith in ap (λ n. above n xs) e)
    (λ h. above_empty (min 64 k) xs (omega arith) fits ∙ sym (above_empty k xs h fits))
    (cases_lt k 64)

-- the numbers of the list below
pub parts_below : (b k : ℕ) (xs : List ℕ) → 1 ≤ b → Narrow 64 xs → parts b (above k xs) ≡ above (min 64 (k + b)) xs
parts_below b k xs some fits = parts-above b k xs some ∙ sym (above-min (k + b) xs fits)

pub cut_size : (b : ℕ) (L : Meaning) (xs : List ℕ) → length ((cut b L).string xs) ≡ below_at b (length xs) + length (L.string (parts b xs))
cut_size b L xs =
    sections_long b (length xs) (lows b xs) (marks b xs) (L.string (parts b xs)) (length-map xs (λ x. x % 2 ^ b)) (length-map xs (λ x. cond (marked b x) 1 0))

-- bytes put where there is just the room for them
pub filled_part : (bytes old : List ℕ) {new : List ℕ} (n : ℕ) → length old ≡ n → (n ≤ length old → new ≡ bytes ++ drop n old) → new ≡ bytes
filled_part bytes old n long put =
    put (omega arith) ∙ ap (λ l. bytes ++ l) (drop_all n old (omega arith)) ∙ append-nil bytes

-- marks are read back
pub marks_back : (m : ℕ) (ms : List ℕ) → length ms ≡ m → Narrow 1 ms → unpacked 1 m (packed 1 ms) ≡ ms
marks_back m ms long narrow = ap (unpacked 1 m) (sym (append-nil (packed 1 ms))) ∙ section_read 1 m ms [] long narrow

-- the sections of a cut, put one behind another in front of the bytes of the list below
module _ (b m : ℕ) (ls ms : List ℕ) (count-ls : length ls ≡ m) (count-ms : length ms ≡ m) where
  abbrev pub own_sections : List ℕ
  own_sections = (packed b ls ++ packed 1 ms) ++ packed 32 (directory ms)

  pub all_put : (string out : List ℕ) → own_sections ++ (string ++ drop (length string) (drop (below_at b m) out)) ≡ sections b ls ms string ++ drop (length (sections b ls ms string)) out
  all_put string out =
      let long = sections_long b m ls ms string count-ls count-ms in
      ap (λ l. own_sections ++ (string ++ l)) (drop-drop (length string) (below_at b m) out ∙ ap (λ k. drop k out) (sym long))
      ∙ simp append_assoc

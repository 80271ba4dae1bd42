-- Bytes by their pieces, as the library's `split` gives them. Assumes nothing.
use Rattle.std.proofs.Common.{◌≡◌, ℕ, ◌<◌, cond, eqb, Bool, true, false, List, [], ◌∷◌, length, take, drop, ◌+◌, Some, None, Option, MatchOption, refl, ap, sym, ◌∙◌, arith}
use Rattle.std.specs.List.{slice_split, onto_first, position_or_len, before_first, after_first, All, AllWithin, HoldsAt}
use Rattle.std.proofs.lemmas.List.Elements.{All-from_all_within}
use Rattle.std.proofs.lemmas.List.Sums.{position_or_len_is}
use Rattle.std.proofs.lemmas.List.Splits.{slice_split_first, slice_split_none}
use Rattle.line.specs.Pieces.{pieces, piece_ends, piece_grows, without_empty_end, lines}

-- the first piece and the others are the parts that a split gives
pub split_pieces : (by : ℕ) (bs : List ℕ) → slice_split (λ b. eqb b by) bs ≡ (pieces by bs).0 ∷ (pieces by bs).1
split_pieces by [] = refl
split_pieces by (b ∷ bs) = by_test (eqb b by) (split_pieces by bs)
  where
    by_test : (ends : Bool) → slice_split (λ c. eqb c by) bs ≡ (pieces by bs).0 ∷ (pieces by bs).1 → cond ends ([] ∷ slice_split (λ c. eqb c by) bs) (onto_first b (slice_split (λ c. eqb c by) bs)) ≡ (cond ends (piece_ends (pieces by bs)) (piece_grows b (pieces by bs))).0 ∷ (cond ends (piece_ends (pieces by bs)) (piece_grows b (pieces by bs))).1
    by_test true rest = ap (λ parts. [] ∷ parts) rest
    by_test false rest = ap (onto_first b) rest

-- the lines of bytes by their parts
lines_of_parts : (bs : List ℕ) {piece : List ℕ} {others : List (List ℕ)} → (pieces 10 bs).0 ∷ (pieces 10 bs).1 ≡ piece ∷ others → lines bs ≡ without_empty_end piece others
lines_of_parts bs e = cc

-- where another piece stands behind the first, that is a line
first_of_more : (piece next : List ℕ) (others : List (List ℕ)) → without_empty_end piece (next ∷ others) ≡ piece ∷ without_empty_end next others
first_of_more [] next others = refl
first_of_more (b ∷ bs) next others = refl

-- byte 10 ends the first line
ends_at : (bs : List ℕ) → position_or_len (λ b. eqb b 10) bs < length bs → lines bs ≡ before_first (λ b. eqb b 10) bs ∷ lines (after_first (λ b. eqb b 10) bs)
ends_at bs ends =
    let line : List ℕ = before_first (λ b. eqb b 10) bs in
    let behind : List ℕ = after_first (λ b. eqb b 10) bs in
    let parts : (pieces 10 bs).0 ∷ (pieces 10 bs).1 ≡ line ∷ (pieces 10 behind).0 ∷ (pieces 10 behind).1 =
    sym (split_pieces 10 bs) ∙ slice_split_first (λ b. eqb b 10) bs 0 ends ∙ ap (λ parts. line ∷ parts) (split_pieces 10 behind) in
    lines_of_parts bs parts ∙ first_of_more line (pieces 10 behind).0 (pieces 10 behind).1

-- the input ends it
ends_last : (bs : List ℕ) → 0 < length bs → All (λ b. eqb b 10 ≡ false) bs → lines bs ≡ bs ∷ []
ends_last bs some none =
    lines_of_parts bs (sym (split_pieces 10 bs) ∙ slice_split_none (λ b. eqb b 10) bs none) ∙ alone bs some
  where
    alone : (bs : List ℕ) → 0 < length bs → without_empty_end bs [] ≡ bs ∷ []
    alone [] some = absurd (omega arith)
    alone (b ∷ bs) some = refl

-- the first line by the place of the first byte 10, if there is one
pub first_line : (bs : List ℕ) (found : Option ℕ) → MatchOption found (AllWithin (λ b. eqb b 10 ≡ false) bs 0 (length bs)) (λ i. (i < length bs) × HoldsAt (λ b. eqb b 10 ≡ true) bs i × AllWithin (λ b. eqb b 10 ≡ false) bs 0 i) → MatchOption found (0 < length bs → lines bs ≡ bs ∷ []) (λ i. lines bs ≡ take i bs ∷ lines (drop (i + 1) bs))
first_line bs None none = λ some. ends_last bs some (All-from_all_within (λ b. eqb b 10 ≡ false) bs none)
first_line bs (Some i) (within, here, before) =
    let at : position_or_len (λ b. eqb b 10) bs ≡ i =
    position_or_len_is (λ b. eqb b 10) bs i 0 (omega arith) (λ k l. before k 0 (omega arith) l) (λ _. here 0) in
    ends_at bs (omega arith) ∙ (λ j. take (at j) bs ∷ lines (drop (at j + 1) bs))

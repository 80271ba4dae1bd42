-- The numbers of several words, a word more at a time. Assumes nothing.
use Rattle.std.proofs.Common.{◌≡◌, ℕ, ◌+◌, ◌<◌, ◌≤◌, List, [], ◌∷◌, ◌++◌, length, get_or, drop, Some, None, Option, sym, refl, ap, ◌∙◌, append_assoc, arith}
use Rattle.std.specs.Option.{option_map}
use Rattle.std.proofs.lemmas.List.{at_drop_more}
use Rattle.line.specs.Grammar.{spelled, both, numbers, lettered, not_understood}

-- the numbers that were read, and then those to come
abbrev pub read : List ℕ → Option (List ℕ) → Option (List ℕ)
read ns more = option_map (λ ms. ns ++ ms) more

pub none_read : (more : Option (List ℕ)) → read [] more ≡ more
none_read None = refl
none_read (Some ms) = refl

-- no command has so many numbers
too_many : (letter : ℕ) (ns : List ℕ) (n : ℕ) (more : Option (List ℕ)) → 4 ≤ length ns → lettered (letter ∷ []) (read ns (both (Some n) more)) ≡ not_understood
too_many letter ns n None many = refl
too_many letter [] n (Some more) many = absurd (omega arith)
too_many letter (a ∷ []) n (Some more) many = absurd (omega arith)
too_many letter (a ∷ b ∷ []) n (Some more) many = absurd (omega arith)
too_many letter (a ∷ b ∷ d ∷ ns) n (Some more) many = refl

-- word k of all comes behind words that spell the numbers ns
module _ (ns : List ℕ) (all : List (List ℕ)) (k : ℕ) (word : List ℕ) (whole : Option (List ℕ)) (so_far : read ns (numbers (drop k all)) ≡ whole) (at : (k < length all) × (word ≡ get_or all k word)) where
  by_word : read ns (both (spelled word) (numbers (drop (k + 1) all))) ≡ whole
  by_word = ap (read ns) (sym (at_drop_more numbers all k word at.0 ∙ ap (λ w. both (spelled w) (numbers (drop (k + 1) all))) (sym at.1))) ∙ so_far

  -- it spells no number
  pub none_spelled : None ≡ spelled word → (letter : ℕ) → lettered (letter ∷ []) whole ≡ not_understood
  none_spelled none letter = ap (lettered (letter ∷ [])) (sym by_word ∙ ap (λ o. read ns (both o (numbers (drop (k + 1) all)))) (sym none))

  -- its number is one more
  pub number_kept : (n : ℕ) → Some n ≡ spelled word → read (ns ++ n ∷ []) (numbers (drop (k + 1) all)) ≡ whole
  number_kept n is = sym (moved (numbers (drop (k + 1) all))) ∙ ap (λ o. read ns (both o (numbers (drop (k + 1) all)))) is ∙ by_word
    where
      moved : (more : Option (List ℕ)) → read ns (both (Some n) more) ≡ read (ns ++ n ∷ []) more
      moved None = refl
      moved (Some ms) = ap Some (sym (append_assoc ns (n ∷ []) ms))

  -- its number is one too many
  pub number_past : (n : ℕ) → Some n ≡ spelled word → 4 ≤ length ns → (letter : ℕ) → lettered (letter ∷ []) whole ≡ not_understood
  number_past n is many letter =
      ap (lettered (letter ∷ [])) (sym by_word ∙ ap (λ o. read ns (both o (numbers (drop (k + 1) all)))) (sym is)) ∙ too_many letter ns n (numbers (drop (k + 1) all)) many

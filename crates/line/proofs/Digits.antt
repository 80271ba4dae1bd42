-- The digits of a word, a byte more at a time. Assumes nothing.
use Rattle.std.proofs.Common.{◌≡◌, ℕ, ◌+◌, ◌-◌, ◌*◌, ◌<◌, ◌≤◌, Bool, true, false, cond, ◌&&◌, leb, List, [], ◌∷◌, length, Some, None, refl, ap, le_trans, le_refl, arith}
use Rattle.std.proofs.lemmas.Bool.{le-leb, lt-leb}
use Rattle.line.specs.Grammar.{digit, digits, value, followed, spelled}

-- a word that is not empty spells what its digits come to
pub spelled_some : (word : List ℕ) → 0 < length word → followed 0 word ≡ spelled word
spelled_some [] some = absurd (omega arith)
spelled_some (b ∷ bs) some = refl

pub followed_end : (n : ℕ) → n < 4294967296 → followed n [] ≡ Some n
followed_end n small = ap (λ t. cond t (Some n) None) (le-leb n 4294967295 (omega arith))

pub followed_more : (n b : ℕ) (word : List ℕ) → digit b ≡ true → followed n (b ∷ word) ≡ followed (n * 10 + (b - 48)) word
followed_more n b word is = ap (λ t. cond ((t && digits word) && leb (value n (b ∷ word)) 4294967295) (Some (value n (b ∷ word))) None) is

-- more digits make no number smaller
value_grows : (n : ℕ) (word : List ℕ) → n ≤ value n word
value_grows n [] = le_refl n
value_grows n (b ∷ bs) = le_trans (omega arith) (value_grows (n * 10 + (b - 48)) bs)

-- behind another byte than a digit, or one that makes the number too great, nothing is spelled
pub followed_none : (n b : ℕ) (word : List ℕ) → ((digit b ≡ true) × (n * 10 + (b - 48) < 4294967296) → ⊥) → followed n (b ∷ word) ≡ None
followed_none n b word fails = by_digit (digit b) (λ is small. fails (is, small))
  where
    past : (value n (b ∷ word) ≤ 4294967295 → ⊥) → leb (value n (b ∷ word)) 4294967295 ≡ false
    past great = lt-leb (value n (b ∷ word)) 4294967295 (omega arith)

    never : (x y : Bool) → y ≡ false → (x && y) ≡ false
    never true y e = e
    never false y e = refl

    by_digit : (is : Bool) → (is ≡ true → n * 10 + (b - 48) < 4294967296 → ⊥) → cond ((is && digits word) && leb (value n (b ∷ word)) 4294967295) (Some (value n (b ∷ word))) None ≡ None
    by_digit false great = refl
    by_digit true great =
        ap (λ t. cond t (Some (value n (b ∷ word))) None) (never (digits word) (leb (value n (b ∷ word)) 4294967295) (past (λ small. great refl (omega (arith, value_grows (n * 10 + (b - 48)) word)))))

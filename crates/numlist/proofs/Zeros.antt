-- Whether a number is 0, one by one. Assumes nothing.
use Rattle.std.proofs.Common.{◌≡◌, ℕ, ◌<◌, Bool, true, false, List, length, get_or, sym, ⊎_elim, arith}
use Rattle.std.proofs.ByRecursion.{All-get_or, All-from_get_or}
use Rattle.std.proofs.lemmas.Bool.{cases_Bool}
use Rattle.numlist.specs.Cuts.{nonzero}
use Rattle.numlist.specs.CutVerdicts.{nonzero_decides}

-- none of m numbers is 0, or one is
abbrev pub NoZero : ℕ → List ℕ → Bool → Type 0
NoZero m hs true = (i : ℕ) → i < m → get_or hs i 0 ≡ 0 → ⊥
NoZero m hs false = (i : ℕ) × (i < m) × (get_or hs i 0 ≡ 0)

pub no_zeros : (m : ℕ) (hs : List ℕ) → length hs ≡ m → (r : Bool) → NoZero m hs r → r ≡ nonzero hs
no_zeros m hs count true each =
    sym ((nonzero_decides hs).1 (All-from_get_or (λ x. 0 < x) hs 0 (λ i h. let some = each i (omega arith) in omega (arith, some))))
no_zeros m hs count false (i, h, e) =
    ⊎_elim
    (λ t. absurd (omega (arith, e, All-get_or (λ x. 0 < x) hs i 0 (omega arith) ((nonzero_decides hs).0 t))))
    (λ f. sym f)
    (cases_Bool (nonzero hs))

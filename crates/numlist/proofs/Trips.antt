-- Numbers that are written are few and small. Assumes nothing.
use Rattle.std.proofs.Common.{◌≡◌, ℕ, ◌≤◌, leb, List, length, Ok, Err, Result, sym, refl, ◌∙◌, ⊎_elim, arith}
use Rattle.std.proofs.lemmas.Bool.{cases_Bool, leb-true}
use Rattle.bits.specs.Packing.{Narrow}
use Rattle.numlist.specs.Calls.{narrow, write_answer}
use Rattle.numlist.specs.Lists.{Meaning, most}
use Rattle.numlist.specs.declared.refusal.WriteRefused.{WriteRefused}
use Rattle.numlist.proofs.Aboves.{narrow-true}
use Rattle.numlist.proofs.Answering.{write_too_large}

never_written : (r : WriteRefused) (n : ℕ) → ◌≡◌ {A = Result ℕ WriteRefused} (Ok n) (Err r) → ⊥
never_written r n e = let z : ◌≡◌ {A = ℕ} 0 1 = cc in omega arith

-- what is written is few and small
pub written_fits : (L : Meaning) (xs : List ℕ) (bytes n : ℕ) → Ok n ≡ write_answer L xs bytes → (length xs ≤ most) × Narrow L.reach xs
written_fits L xs bytes n e =
    ⊎_elim
    (λ few. ⊎_elim
    (λ small. (leb-true (length xs) most few, narrow-true L.reach xs small))
    (λ wide. absurd (never_written WriteRefused.TooLarge n (e ∙ sym (write_too_large L xs bytes (leb-true (length xs) most few) wide))))
    (cases_Bool (narrow L.reach xs)))
    (λ many. absurd (never_written WriteRefused.TooMany n (e ∙ rw many refl)))
    (cases_Bool (leb (length xs) most))

-- The answer to the wish to write, in each case. Assumes nothing.
use Rattle.std.proofs.Common.{◌≡◌, ℕ, ◌<◌, ◌≤◌, true, false, List, length, Ok, Err, Result, MatchResult, sym, refl, arith}
use Rattle.std.proofs.lemmas.Bool.{le-leb, lt-leb}
use Rattle.numlist.specs.Calls.{narrow, write_answer}
use Rattle.numlist.specs.Lists.{Meaning, most}
use Rattle.numlist.specs.declared.fault.ListFault.{ListFault}
use Rattle.numlist.specs.declared.refusal.WriteRefused.{WriteRefused}

pub ok-number : (a b : ℕ) → ◌≡◌ {A = Result ℕ ListFault} (Ok a) (Ok b) → a ≡ b
ok-number a b e = cc

module _ (L : Meaning) (xs : List ℕ) (bytes : ℕ) (few : length xs ≤ most) where
  pub write_too_large : narrow L.reach xs ≡ false → Err WriteRefused.TooLarge ≡ write_answer L xs bytes
  write_too_large wide = sym (rw (le-leb (length xs) most few, wide) refl)

  pub write_no_room : narrow L.reach xs ≡ true → bytes < length (L.string xs) → Err WriteRefused.NoRoom ≡ write_answer L xs bytes
  write_no_room small long = sym (rw (le-leb (length xs) most few, small, lt-leb (length (L.string xs)) bytes long) refl)

  pub write_fits : narrow L.reach xs ≡ true → length (L.string xs) ≤ bytes → Ok (length (L.string xs)) ≡ write_answer L xs bytes
  write_fits small short = sym (rw (le-leb (length xs) most few, small, le-leb (length (L.string xs)) bytes short) refl)

pub never_both : (fault : ListFault) (n : ℕ) → ◌≡◌ {A = Result ℕ ListFault} (Err fault) (Ok n) → ⊥
never_both fault n e = let z : ◌≡◌ {A = ℕ} 0 1 = cc in omega arith

-- a number that went through unchanged
pub ok_through :
    (r q : Result ℕ ListFault) (P : ListFault → Type 0) (a b : ℕ) → MatchResult r (λ x. q ≡ Ok x) P → r ≡ Ok a → q ≡ Ok b
    → b ≡ a
ok_through (Ok x) q P a b went e f = cc
ok_through (Err fault) q P a b went e f = absurd (never_both fault a e)

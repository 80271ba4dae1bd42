-- A list and then a trailer, written one after the other, are a spot. Assumes nothing.
use Rattle.std.proofs.Common.{◌≡◌, ℕ, ◌-◌, ◌<◌, ◌≤◌, true, false, List, ◌++◌, length, take, drop, is_ok, Ok, Err, Result, MatchResult, sym, refl, ap, ◌∙◌, ⊎_elim, arith, length-append, length-drop, take-append-drop, length-take-le, drop-drop}
use borrow.Rule.Slice.PartMut.{put_mid}
use lib.Seq.{drop-append-le}
use Rattle.std.proofs.lemmas.List.{append-nil, append_assoc, take_at, drop_at, take_rest, drop_all}
use Rattle.std.proofs.lemmas.Bool.{cases_lt, true≢false}
use Rattle.numlist.specs.Calls.{narrow, write_answer}
use Rattle.numlist.specs.Lists.{Meaning, most}
use Rattle.numlist.specs.declared.refusal.WriteRefused.{WriteRefused}
use Rattle.numlist.proofs.Answering.{write_fits, write_no_room}

ok-is : (a b : ℕ) → ◌≡◌ {A = Result ℕ WriteRefused} (Ok a) (Ok b) → a ≡ b
ok-is a b e = cc

never : (a : ℕ) (r : WriteRefused) → ◌≡◌ {A = Result ℕ WriteRefused} (Ok a) (Err r) → ⊥
never a r e = let z : ◌≡◌ {A = ℕ} 0 1 = cc in omega arith

-- a result that is handed on with another error: an accepted one is the same
pub sent : {E : Type 0} (D : Type 0) (r : Result ℕ E) (n : ℕ) → MatchResult r (λ x. ◌≡◌ {A = Result ℕ D} (Ok n) (Ok x)) (λ e. ⊥) → r ≡ Ok n
sent D (Ok x) n same = cc
sent D (Err e) n other = absurd other

-- numbers that are few and small are written exactly where there is room for their string
module _ (L : Meaning) (xs : List ℕ) (bytes : ℕ) (few : length xs ≤ most) (small : narrow L.reach xs ≡ true) where
  pub written-length : (n : ℕ) → Ok n ≡ write_answer L xs bytes → (n ≡ length (L.string xs)) × (length (L.string xs) ≤ bytes)
  written-length n e =
      ⊎_elim
      (λ short. absurd (never n WriteRefused.NoRoom (e ∙ sym (write_no_room L xs bytes few small short))))
      (λ fits. (ok-is n (length (L.string xs)) (e ∙ sym (write_fits L xs bytes few small fits)), fits))
      (cases_lt bytes (length (L.string xs)))

  pub refused-length : (r : Result ℕ WriteRefused) → false ≡ is_ok r → r ≡ write_answer L xs bytes → bytes < length (L.string xs)
  refused-length (Ok n) refused e = absurd (true≢false (sym refused))
  refused-length (Err r) refused e =
      ⊎_elim
      (λ short. short)
      (λ fits. absurd (never (length (L.string xs)) r (write_fits L xs bytes few small fits ∙ sym e)))
      (cases_lt bytes (length (L.string xs)))

-- the string is written at the front of the first `front` bytes, and then the trailer behind the string
module _ (string trailer out : List ℕ) (front : ℕ) (within : length string ≤ front) (room : front ≤ length out) (long : length trailer ≡ 24) where
  abbrev n : ℕ
  n = length string

  abbrev listed : List ℕ
  listed = (string ++ drop n (take front out)) ++ drop front out

  rest_is : drop n (take front out) ++ drop front out ≡ drop n out
  rest_is =
      sym (drop-append-le n (take front out) (drop front out) (omega (arith, length-take-le front out room)))
      ∙ ap (drop n) (take-append-drop front out)

  listed-is : listed ≡ string ++ drop n out
  listed-is = append_assoc string (drop n (take front out)) (drop front out) ∙ ap (λ l. string ++ l) rest_is

  pub behind_list : take (length listed - n) (drop n listed) ≡ drop n out
  behind_list = take_rest listed n ∙ ap (drop n) listed-is ∙ drop_at string (drop n out) n refl

  pub spot-written : (m : ℕ) → m ≡ n → put_mid m (length listed - m) listed (trailer ++ drop 24 (drop n out)) ≡ (string ++ trailer) ++ drop (length (string ++ trailer)) out
  spot-written m is =
      ap (λ k. put_mid k (length listed - k) listed (trailer ++ drop 24 (drop n out))) is
      ∙ ap (λ l. take n l ++ ((trailer ++ drop 24 (drop n out)) ++ drop (length listed - n) (drop n listed))) listed-is
      ∙ ap (λ l. l ++ ((trailer ++ drop 24 (drop n out)) ++ drop (length listed - n) (drop n listed))) (take_at string (drop n out) n refl)
      ∙ ap (λ l. string ++ ((trailer ++ drop 24 (drop n out)) ++ l)) (drop_all (length listed - n) (drop n listed) (omega (arith, length-drop n listed)))
      ∙ ap (λ l. string ++ l) (append-nil (trailer ++ drop 24 (drop n out)))
      ∙ sym (append_assoc string trailer (drop 24 (drop n out)))
      ∙ ap (λ l. (string ++ trailer) ++ l) (drop-drop 24 n out ∙ ap (λ k. drop k out) (omega (arith, length-append string trailer)))

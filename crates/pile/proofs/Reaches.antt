-- A pile that is made reaches 64 bits at most. Assumes nothing.
use Rattle.std.proofs.Common.{◌≡◌, ℕ, zero, suc, ◌+◌, ◌≤◌, Bool, true, false, cond, List, [], ◌∷◌, Some, None, Ok, Err, Option, Result, refl, subst, arith}
use Rattle.std.proofs.lemmas.Bool.Decides.{nat_tests}
use Rattle.bits.specs.Widths.{allowed}
use Rattle.numlist.specs.Calls.{cut_refusal}
use Rattle.numlist.specs.Cuts.{cut}
use Rattle.numlist.specs.Fixed.{fixed}
use Rattle.numlist.specs.FixedSound.{fixed_within}
use Rattle.numlist.specs.Lists.{Meaning}
use Rattle.numlist.specs.declared.refusal.CutRefused.{CutRefused}
use Rattle.pile.specs.Piles.{grown, unless, pile_of}
use Rattle.pile.specs.declared.refusal.PileRefused.{PileRefused}

abbrev Made : Type 0
Made = Result Meaning PileRefused

same_list : (L M : Meaning) → ◌≡◌ {A = Made} (Ok L) (Ok M) → L ≡ M
same_list L M is = cc

never_both : (refusal : PileRefused) (M : Meaning) → ◌≡◌ {A = Made} (Err refusal) (Ok M) → ⊥
never_both refusal M is = let z : ◌≡◌ {A = ℕ} 0 1 = cc in omega arith

-- a cut that is made reaches 64 bits at most
cut_reach : (b k : ℕ) → cut_refusal b k ≡ None → b + k ≤ 64
cut_reach b k made = grind (arith, nat_tests)

cut_made : (refusal : Option CutRefused) (made : Made) (M : Meaning) → unless refusal made ≡ Ok M → (refusal ≡ None) × (made ≡ Ok M)
cut_made None made M is = (refl, is)
cut_made (Some refusal) made M is = absurd (never_both _ M is)

reach_kept : (L M : Meaning) → L.reach ≤ 64 → ◌≡◌ {A = Made} (Ok L) (Ok M) → M.reach ≤ 64
reach_kept L M small is = subst (λ N. N.reach ≤ 64) (same_list L M is) small

grown_reach : (n : ℕ) (L M : Meaning) (cuts : List ℕ) → L.reach ≤ 64 → grown n L cuts ≡ Ok M → M.reach ≤ 64
grown_reach zero L M [] small is = reach_kept L M small is
grown_reach (suc n) L M [] small is = reach_kept L M small is
grown_reach zero L M (b ∷ bs) small is = absurd (never_both _ M is)
grown_reach (suc n) L M (b ∷ bs) small is =
    let made = cut_made (cut_refusal b L.reach) (grown n (cut b L) bs) M is in
    grown_reach n (cut b L) M bs (cut_reach b L.reach made.0) made.1

pub pile_reach : (w : ℕ) (cuts : List ℕ) (M : Meaning) → pile_of w cuts ≡ Ok M → M.reach ≤ 64
pile_reach w cuts M is = by_width (allowed w) refl is
  where
    by_width : (fine : Bool) → allowed w ≡ fine → cond fine (grown 4 (fixed w) cuts) (Err PileRefused.Width) ≡ Ok M → M.reach ≤ 64
    by_width true fits grows = grown_reach 4 (fixed w) M cuts (fixed_within w (grind (arith, nat_tests))) grows
    by_width false fits grows = absurd (never_both _ M grows)

-- Piles by their widths.
use Rattle.std.specs.Prelude.{◌≡◌, ℕ, zero, suc, ◌+◌, cond, List, [], ◌∷◌, drop, Some, None, Ok, Err, Option, Result}
use Rattle.bits.specs.Widths.{allowed}
use Rattle.numlist.specs.Calls.{cut_refusal}
use Rattle.numlist.specs.Cuts.{cut}
use Rattle.numlist.specs.Fixed.{fixed}
use Rattle.numlist.specs.Lists.{Meaning}
use Rattle.numlist.specs.declared.refusal.CutRefused.{CutRefused}
use Rattle.pile.specs.declared.refusal.PileRefused.{PileRefused}

-- the refusal of a cut as that of its pile
abbrev pub of_cut : CutRefused → PileRefused
of_cut CutRefused.Width = PileRefused.Width
of_cut CutRefused.Reach = PileRefused.Reach

-- x where a cut is made, and the reason where it is not
abbrev pub unless : {X : Type 0} → Option CutRefused → Result X PileRefused → Result X PileRefused
unless None x = x
unless (Some refusal) x = Err (of_cut refusal)

-- at most n cuts of these widths over a list, the first one lowest, or the first reason against it
abbrev pub grown : ℕ → Meaning → List ℕ → Result Meaning PileRefused
grown n L [] = Ok L
grown zero L (b ∷ bs) = Err PileRefused.TooMany
grown (suc n) L (b ∷ bs) = unless (cut_refusal b L.reach) (grown n (cut b L) bs)

-- a fixed list of w bits under at most four cuts of these widths
abbrev pub pile_of : ℕ → List ℕ → Result Meaning PileRefused
pile_of w cuts = cond (allowed w) (grown 4 (fixed w) cuts) (Err PileRefused.Width)

-- one more layer, by the width at place i if there is one: whatever the layers above come to over it, it is what all of
-- them, this one first, come to over the list below
abbrev pub Grown : {S : Type 0} → List ℕ → ℕ → Meaning → (S → Meaning) → Result S PileRefused → Type 0
Grown cuts i L means (Ok s) = (n : ℕ) → grown (suc n) L (drop i cuts) ≡ grown n (means s) (drop (i + 1) cuts)
Grown cuts i L means (Err refusal) = (n : ℕ) → grown (suc n) L (drop i cuts) ≡ Err refusal

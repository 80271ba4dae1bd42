use Rattle.std.proofs.Common.{◌≡◌, ◌<◌, ◌≤◌, true, List, ℕ, length, drop, Ok, Err, sym, refl, ◌∙◌}
use Rattle.std.proofs.lemmas.List.{drop_more, drop_all}
use Rattle.bits.specs.Widths.{allowed}
use Rattle.numlist.specs.Fixed.{fixed}
use Rattle.numlist.specs.Lists.{Meaning}
use Rattle.pile.proofs.Reaches.{pile_reach}
use Rattle.pile.specs.Layers.{layered}
use Rattle.pile.specs.Piles.{grown, pile_of}
use Rattle.pile.specs.declared.refusal.PileRefused.{PileRefused}
use Rattle.pile.proofs.pile.new_pile.Goals as goal
use Rattle.pile.proofs.pile.new_pile.Goals.{In_ok-four}

-- a fixed list of an allowed width is under the cuts
over_fixed : (bits width : ℕ) (cuts : List ℕ) → true ≡ allowed bits → width ≡ bits → pile_of bits cuts ≡ grown 4 (fixed width) cuts
over_fixed bits width cuts ok is = rw (sym ok, is) refl

-- four layers are made: what is left is a fifth cut
four_made : (c : In_ok-four) → pile_of c.args.bits c.args.cuts.now ≡ grown 0 (layered (layered (layered (layered (λ s. fixed s.width.bits)))) c.in_ok-four.four) (drop 4 c.args.cuts.now)
four_made c =
    over_fixed c.args.bits c.in_ok-fixed.fixed.width.bits c.args.cuts.now c.in_ok-fixed.ensures.refused c.in_ok-fixed.ensures.made
    ∙ c.in_ok-one.ensures 3
    ∙ c.in_ok-two.ensures 2
    ∙ c.in_ok-three.ensures 1
    ∙ c.in_ok-four.ensures 0

-- after as many cuts as there may be, one is left
cut_left : (L : Meaning) (cuts : List ℕ) (i : ℕ) → i < length cuts → grown 0 L (drop i cuts) ≡ Err PileRefused.TooMany
cut_left L cuts i more = rw (drop_more cuts i 0 more) refl

-- or none is
no_cut_left : (L : Meaning) (cuts : List ℕ) (i : ℕ) → length cuts ≤ i → grown 0 L (drop i cuts) ≡ Ok L
no_cut_left L cuts i past = rw (drop_all i cuts past) refl

pub returns-then-cuts-gt-MOST_CUTS-clause-pile : goal.returns-then-cuts-gt-MOST_CUTS-clause-pile
returns-then-cuts-gt-MOST_CUTS-clause-pile c =
    four_made (goal.at.returns-then-cuts-gt-MOST_CUTS-clause-pile c).In_ok-four ∙ cut_left _ c.args.cuts.now 4 c.if-cuts-gt-MOST_CUTS.true

pub returns : goal.returns
returns c =
    let made = four_made (goal.at.returns c).In_ok-four ∙ no_cut_left _ c.args.cuts.now 4 c.if-cuts-gt-MOST_CUTS.false in
    record { reach = pile_reach c.args.bits c.args.cuts.now _ made; pile = made }

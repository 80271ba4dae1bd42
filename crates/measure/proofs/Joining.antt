-- Whatever is joined from the same hits is their one figure. Assumes nothing.
use Rattle.std.proofs.Common.{◌≡◌, ℕ, ◌<◌, List, [], ◌∷◌, ◌++◌, fold, sym, refl, ap, ◌∙◌, arith}
use Rattle.std.proofs.lemmas.Bool.{cond-true}
use Rattle.grid.specs.Cells.{same, count}
use Rattle.grid.specs.declared.cell.Cell.{Cell}
use Rattle.grid.proofs.Sames.{same_equal, same_self}
use Rattle.arrange.proofs.Counted.{Found, found, count-cons, count-append, count-parts}
use Rattle.measure.specs.Measures.{Figures, MeasureLaws, Joins, figure, SameHits, InAnyOrder}
use Rattle.measure.specs.Measures.Joins.{no_hit, a_hit, both}

-- the figure of a list of hits is joined from it
pub figure_joins : {F : Type 0} (m : Figures F) (hits : List Cell) → Joins m hits (figure m hits)
unfolding figure
figure_joins m [] = no_hit
figure_joins m (c ∷ cs) = both (c ∷ []) cs (m.one c) (figure m cs) (a_hit c) (figure_joins m cs)

module _ {F : Type 0} (m : Figures F) (laws : MeasureLaws m) where
  pub figure_good : (hits : List Cell) → m.Good (figure m hits)
  unfolding figure
  figure_good [] = laws.none_good
  figure_good (c ∷ cs) = laws.join_good _ _ (laws.one_good c) (figure_good cs)

  neutral_right : (f : F) → m.Good f → m.join f m.none ≡ f
  neutral_right f good = laws.commutative f m.none good laws.none_good ∙ laws.neutral f good

  figure_one : (c : Cell) → figure m (c ∷ []) ≡ m.one c
  unfolding figure
  figure_one c = neutral_right (m.one c) (laws.one_good c)

  -- the figure of two lists one after the other is joined from theirs
  pub figure-append : (left right : List Cell) → figure m (left ++ right) ≡ m.join (figure m left) (figure m right)
  unfolding figure
  figure-append [] right = sym (laws.neutral (figure m right) (figure_good right))
  figure-append (c ∷ cs) right =
      ap (m.join (m.one c)) (figure-append cs right)
      ∙ sym (laws.associative (m.one c) (figure m cs) (figure m right) (laws.one_good c) (figure_good cs) (figure_good right))

  -- what is joined from a list of hits, in whatever bracketing, is their figure
  pub joined : {hits : List Cell} {g : F} → Joins m hits g → g ≡ figure m hits
  unfolding figure
  joined no_hit = refl
  joined (a_hit c) = sym (figure_one c)
  joined (both left right f g l r) =
      ap (λ h. m.join h g) (joined l) ∙ ap (m.join (figure m left)) (joined r) ∙ sym (figure-append left right)

  -- a hit can be taken to the front
  figure-middle : (left : List Cell) (c : Cell) (right : List Cell) → figure m (left ++ c ∷ right) ≡ figure m (c ∷ left ++ right)
  unfolding figure
  figure-middle [] c right = refl
  figure-middle (l ∷ ls) c right =
      let one = laws.one_good in
      let rest = figure_good (ls ++ right) in
      ap (m.join (m.one l)) (figure-middle ls c right)
      ∙ sym (laws.associative (m.one l) (m.one c) (figure m (ls ++ right)) (one l) (one c) rest)
      ∙ ap (λ f. m.join f (figure m (ls ++ right))) (laws.commutative (m.one l) (m.one c) (one l) (one c))
      ∙ laws.associative (m.one c) (m.one l) (figure m (ls ++ right)) (one c) (one l) rest

  -- a list has its first hit
  first_counted : (c : Cell) (cs : List Cell) → 0 < count c (c ∷ cs)
  first_counted c cs = omega (arith, count-cons (same c) c cs, cond-true {A = ℕ} (same c c) 1 0 (same_self c))

  -- the rest of a list has the same hits as another list without the first hit
  rest_same : (c : Cell) (cs left right : List Cell) → SameHits (c ∷ cs) (left ++ c ∷ right) → SameHits cs (left ++ right)
  rest_same c cs left right often d =
      omega (arith, often d, count-cons (same d) c cs, count-parts (same d) left c right, count-append (same d) left right)

  -- lists with the same hits have the same figure
  pub figure-same : (hits others : List Cell) → SameHits hits others → figure m hits ≡ figure m others
  unfolding figure
  figure-same [] [] often = refl
  figure-same [] (d ∷ ds) often = absurd (omega (arith, often d, first_counted d ds))
  figure-same (c ∷ cs) others often =
      ap (m.join (m.one c)) (figure-same cs (place.left ++ place.right) (rest_same c cs place.left place.right (λ d. often d ∙ ap (count d) whole)))
      ∙ sym (figure-middle place.left c place.right)
      ∙ ap (figure m) (sym whole)
    where
      place : Found (same c) others
      place = found (same c) others (omega (arith, often c, first_counted c cs))

      whole : others ≡ place.left ++ c ∷ place.right
      whole = place.whole ∙ ap (λ d. place.left ++ d ∷ place.right) (sym (same_equal c place.here place.passes))

  -- in any order and any bracketing
  pub in_any_order : (hits : List Cell) (f : F) → f ≡ figure m hits → InAnyOrder m hits f
  in_any_order hits f is others g often joins = joined joins ∙ sym (figure-same hits others often) ∙ sym is

  -- the hits, one after the other, joined to a figure
  figure-fold : (hits : List Cell) (g : F) → m.Good g → fold (λ f c. m.join f (m.one c)) g hits ≡ m.join g (figure m hits)
  unfolding figure
  figure-fold [] g good = sym (neutral_right g good)
  figure-fold (c ∷ cs) g good =
      figure-fold cs (m.join g (m.one c)) (laws.join_good _ _ good (laws.one_good c))
      ∙ laws.associative g (m.one c) (figure m cs) good (laws.one_good c) (figure_good cs)

  -- joined to none, they have their figure
  pub figure_gathered : (hits : List Cell) → fold (λ f c. m.join f (m.one c)) m.none hits ≡ figure m hits
  figure_gathered hits = figure-fold hits m.none laws.none_good ∙ laws.neutral (figure m hits) (figure_good hits)

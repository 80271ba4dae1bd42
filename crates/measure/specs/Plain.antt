-- What the figures of the three measures supplied are, in plain words. Assumes nothing.
use Rattle.std.proofs.Common.{◌≡◌, ℕ, ◌+◌, ◌*◌, ◌%◌, ◌^◌, List, [], ◌∷◌, length, sum_by, refl, arith}
use Rattle.std.specs.List.{AllByRecursion}
use Rattle.std.proofs.ByRecursion.{All-weaker}
use Rattle.std.proofs.lemmas.List.Sums.{sum_by-cons}
use Rattle.grid.specs.declared.cell.Cell.{Cell}
use Rattle.measure.specs.Measures.{figure}
use Rattle.measure.specs.Counts.{counts}
use Rattle.measure.specs.Sums.{sums, totals}
use Rattle.measure.specs.Extents.{extents, Inside, Within, Smallest}
use Rattle.measure.specs.declared.extent.Bounds.{Bounds}

pub counted : (hits : List Cell) → figure counts hits ≡ length hits % 2 ^ 64
unfolding figure
counted [] = refl
counted (c ∷ cs) = omega (arith, counted cs)

-- one more number is added to a sum
sum_more : (f : Cell → ℕ) (c : Cell) (cs : List Cell) (n : ℕ) → n ≡ sum_by f cs % 2 ^ 64 → (f c % 2 ^ 64 + n) % 2 ^ 64 ≡ sum_by f (c ∷ cs) % 2 ^ 64
sum_more f c cs n is = omega (arith, is, sum_by-cons f c cs)

pub summed : (hits : List Cell) → figure sums hits ≡ totals hits
unfolding figure
summed [] = refl
summed (c ∷ cs) = λ i. record {
  x = sum_more (λ d. d.x) c cs (figure sums cs).x (λ j. (summed cs j).x) i;
  y = sum_more (λ d. d.y) c cs (figure sums cs).y (λ j. (summed cs j).y) i;
  squares = sum_more (λ d. d.x * d.x + d.y * d.y) c cs (figure sums cs).squares (λ j. (summed cs j).squares) i;
}

-- a hit of a box lies in every box joined from it
inside_join : (a b : Bounds) (c : Cell) → Inside b c → Inside (extents.join a b) c
inside_join a b c lies = record {
  from_left = omega (arith, lies.from_left);
  to_right = omega (arith, lies.to_right);
  from_low = omega (arith, lies.from_low);
  to_high = omega (arith, lies.to_high);
}

-- a hit lies in every box joined from its own
inside_own : (b : Bounds) (c : Cell) → Inside (extents.join (extents.one c) b) c
inside_own b c = record { from_left = omega arith; to_right = omega arith; from_low = omega arith; to_high = omega arith }

-- a box that has a hit and another box has what is joined from both
within_join : (b other : Bounds) (c : Cell) → extents.Good other → Inside other c → Within b other → Within (extents.join (extents.one c) b) other
within_join b other c good lies rest = record {
  from_left = omega (arith, good.0, lies.from_left, rest.from_left);
  to_right = omega (arith, lies.to_right, rest.to_right);
  from_low = omega (arith, good.1, lies.from_low, rest.from_low);
  to_high = omega (arith, lies.to_high, rest.to_high);
}

all_inside : (hits : List Cell) → AllByRecursion (Inside (figure extents hits)) hits
unfolding figure
all_inside [] = tt
all_inside (c ∷ cs) = (inside_own (figure extents cs) c, All-weaker _ _ (inside_join (extents.one c) (figure extents cs)) cs (all_inside cs))

within_all : (hits : List Cell) (other : Bounds) → extents.Good other → AllByRecursion (Inside other) hits → Within (figure extents hits) other
unfolding figure
within_all [] other good all = record { from_left = good.0; to_right = omega arith; from_low = good.1; to_high = omega arith }
within_all (c ∷ cs) other good all = within_join (figure extents cs) other c good all.0 (within_all cs other good all.1)

pub smallest : (hits : List Cell) → Smallest hits (figure extents hits)
smallest hits = record { has = all_inside hits; least = within_all hits }

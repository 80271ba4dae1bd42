-- The worked examples: by computation, and by where a number leads. Assumes nothing.
use Rattle.std.proofs.Common.{None, refl, arith, lit<, lit≤}
use Rattle.bits.specs.Packing.{value, digits}
use Rattle.cellcode.specs.Codes.{Decodes}
use Rattle.cellcode.specs.Ring.{ring, numbered, step}
use Rattle.cellcode.specs.Spiral.{InRing, across}
use Rattle.cellcode.specs.Rings.{reads}
use Rattle.laws.specs.Worked.{Worked, at}

five_in_ring_one : InRing 5 1
five_in_ring_one = record { from = lit≤ tt; to = lit< tt }

-- number 5 leads to the column before the first
off_the_grid : Decodes ring 16 (at 0 0) 5 None
unfolding across
off_the_grid c on-parent on_grid is = omega (arith, (reads 16 (at 0 0) c 5 1 is five_in_ring_one).column)

pub worked : Worked
unfolding ring numbered step value digits
worked = record {
  ring_near = refl;
  ring_corners = refl;
  ring_first = (refl, refl, refl);
  ring_off_the_grid = off_the_grid;
  cut_lows = refl;
  cut_marks = refl;
  cut_highs = refl;
  cut_string = refl;
}

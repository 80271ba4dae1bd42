use Rattle.std.proofs.Common.{◌≡◌, ℕ, ◌≤◌, ◌%◌, ◌^◌, map, length, take}
use Rattle.bits.specs.Packing.{room}
use Rattle.bits.specs.Writing.{Written}
use Rattle.numlist.specs.Parts.{above}
use Rattle.numlist.proofs.above.Above.put_each.Given as goal

-- what is made of the numbers so far is written, where there is room for all
abbrev pub invariant-loop-number : goal.invariant-loop-number
invariant-loop-number g l =
    let k = l.self-inside.skip in
    let xs = l.self-inside.numbers.now in
    let w = l.width.bits in
    record {
      callable : goal.F-IsAlwaysCallable g l.made;
      lent : l.writer.out.ghost_name ≡ l.initial.writer.out.ghost_name;
      written : (f : ℕ → ℕ) → ((x r : ℕ) → goal.F-post g l.made x r → r % 2 ^ w ≡ f x) → room w (length (above k xs)) ≤ length l.fn.out → Written w l.writer.pen l.fn.out l.writer.out.now (map f (above k (take l.number-index xs)));
    }

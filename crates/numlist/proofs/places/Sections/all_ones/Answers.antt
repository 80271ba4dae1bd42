use Rattle.std.proofs.Common.{arith}
use Rattle.bits.specs.Packing.{value}
use Rattle.bits.proofs.Counts.{marks-le}
use Rattle.std.proofs.Common.{drop, sum, ap, ◌∙◌}
use Rattle.bits.specs.Packing.{unpacked}
use Rattle.numlist.proofs.places.Sections.all_ones.Goals as goal

pub returns : goal.returns
returns c =
    let s = c.args.self.now in
    c.ones.ensures ∙ ap (λ k. sum (unpacked 1 s.count.numbers (drop k s.bytes.now))) s.its_marks

pub invariant_of-result : goal.invariant_of-result
invariant_of-result c =
    let s = c.args.self.now in
    omega (arith, c.ones.ensures, marks-le s.count.numbers (value 8 (drop s.places.marks s.bytes.now)))

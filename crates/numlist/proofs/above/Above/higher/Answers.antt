use Rattle.std.proofs.Common.{◌≡◌, ◌+◌, min, sym, ap, ◌∙◌, arith}
use Rattle.numlist.specs.Parts.{parts, above}
use Rattle.numlist.proofs.CutPuts.{parts_below}
use Rattle.numlist.proofs.above.Above.higher.Goals as goal

pub returns : goal.returns
returns c =
    let w = c.args.width.bits in
    let k = c.self.inside.skip in
    let xs = c.self.inside.numbers.now in
    let skip : c.min.result ≡ min 64 (k + w) = omega (arith, c.min.ensures, c.bits.ensures.value) in
    ap (λ n. above n xs) skip
    ∙ sym (parts_below w k xs c.args.width.low c.self.invariant.2)
    ∙ ap (parts w) c.self.view_is

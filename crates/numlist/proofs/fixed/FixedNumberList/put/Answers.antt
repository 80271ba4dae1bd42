use Rattle.std.proofs.Common.{◌≤◌, ◌++◌, length, drop, sym, ◌∙◌, subst}
use Rattle.bits.specs.Packing.{packed}
use Rattle.bits.proofs.Packings.{length-packed}
use Rattle.numlist.proofs.Aboves.{lows-narrow}
use Rattle.numlist.proofs.fixed.FixedNumberList.put.Goals as goal

pub returns : goal.returns
returns c narrow within =
    let w = c.args.self.now.width.bits in
    let xs = c.args.numbers.now in
    let out = c.args.out.now in
    let long = length-packed w xs in
    c.put_lows.ensures (subst (λ n. n ≤ length out) long within)
    ∙ (λ i. packed w (lows-narrow w xs narrow i) ++ drop (sym long i) out)

use Rattle.std.proofs.Common.{◌≡◌, min, length, ap, ◌∙◌, arith, rules}
use Rattle.numlist.specs.Cuts.{below_at}
use Rattle.numlist.specs.Parts.{parts}
use Rattle.numlist.proofs.CutPuts.{cut_size}
use Rattle.numlist.proofs.cut.CutNumberList.size.Goals as goal

pub returns : goal.returns
returns g c =
    let b = c.args.self.now.width.bits in
    let L = g.L.NumberList.meaning c.args.self.now.below in
    let xs = c.args.numbers.now in
    let own : c.new-places.result.below ≡ below_at b (length xs) = c.new-places.ensures.its_below ∙ ap (below_at b) c.count.ensures in
    let rest : c.size.result ≡ min 18446744073709551615 (length (L.string (parts b xs))) = search rules in
    omega (arith, c.saturating_add.ensures, cut_size b L xs, own, rest)

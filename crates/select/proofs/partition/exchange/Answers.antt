-- Two plain writes exchange the elements.
use Rattle.std.proofs.Common.{set, ◌∙◌}
use Rattle.std.proofs.lemmas.List.{get_or_read}
use Rattle.std.proofs.lemmas.List.Edits.{swap_is}
use Rattle.select.proofs.partition.exchange.Goals as goal

pub returns : goal.returns
returns g c =
    let first = c.index-part-a in
    let second = c.index-part-b in
    let at_b = get_or_read c.args.part.now c.args.b second.result c.requires.1 second.is first.result in
    (λ i. set (set c.args.part.now c.args.a (at_b i)) c.args.b (first.is i))
    ∙ swap_is c.args.part.now c.args.a c.args.b first.result c.requires.0 c.requires.1

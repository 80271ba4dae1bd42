-- All elements are level with the first one.
use Rattle.std.proofs.Common.{◌≡◌, get_or, rules, arith}
use Rattle.std.proofs.lemmas.Bool.{MatchBool-at_true}
use Rattle.std.proofs.lemmas.Iterator.{YieldsList-from_slice, cases_from_all}
use Rattle.arrange.proofs.Totals.{level_equal}
use Rattle.arrange.proofs.tree.is_flat.Goals as goal

pub returns-then-part-ge-LOOKED : goal.returns-then-part-ge-LOOKED
returns-then-part-ge-LOOKED g c d flat =
    λ k e inside.
    MatchBool-at_true _ _ flat (cases_from_all _ _ _ (λ e. e ≡ get_or c.args.part.now 0 d) (λ e. Unit) c.all.ensures.ran (YieldsList-from_slice c.args.part.now cc)
    (λ x q k. (search rules, level_equal g.E.Element.before g.met.E.Element.total _ _ (search rules))) (λ x q k. tt)) k e (omega arith) inside

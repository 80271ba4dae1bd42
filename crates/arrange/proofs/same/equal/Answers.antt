-- All pairs are level where the lists are the same.
use Rattle.std.proofs.Common.{rules}
use Rattle.std.proofs.lemmas.Iterator.{YieldsList-from_slice, YieldsList-from_zip, same_from_all}
use Rattle.arrange.proofs.Totals.{level_equal, not_level}
use Rattle.arrange.proofs.same.equal.Goals as goal

pub returns-then-a-b : goal.returns-then-a-b
returns-then-a-b g c =
    same_from_all c.all.new.self _ _ _ _ c.all.ensures.ran
    (YieldsList-from_zip (YieldsList-from_slice c.args.a.now cc) (YieldsList-from_slice c.args.b.now cc)) (search rules)
    (λ x q k. (search rules, level_equal g.E.Element.before g.met.E.Element.total _ _ (search rules)))
    (λ x q k. not_level g.E.Element.before g.met.E.Element.total _ _ (search rules))

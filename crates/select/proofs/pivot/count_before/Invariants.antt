use Rattle.std.proofs.Common.{◌≡◌, count_by, take}
use Rattle.select.proofs.pivot.count_before.Given as goal

abbrev pub invariant-loop-other : goal.invariant-loop-other
invariant-loop-other g l = l.count ≡ count_by (λ e. g.E.Element.before l.axis e l.element) (take l.other-index l.part)

-- What is gathered above the pivot is level with it.
use Rattle.std.proofs.Common.{rules, arith}
use Rattle.std.proofs.lemmas.List.Sorted.{IsPermutation-trans, IsPermutation-put_mid}
use Rattle.select.proofs.Narrowing.{narrowed_level, narrowed_behind}
use Rattle.select.proofs.selection.narrow.Goals as goal

pub returns-then-at-border-clause-kept : goal.returns-then-at-border-clause-kept
returns-then-at-border-clause-kept g c =
    IsPermutation-trans _ _ _ c.halve-middle.ensures.kept (IsPermutation-put_mid _ _ _ _ c.gather-level.ensures.kept)

pub returns-then-at-border-clause-narrowed : goal.returns-then-at-border-clause-narrowed
returns-then-at-border-clause-narrowed g c =
    narrowed_level g.met.E.Element.total c.args.axis _ c.halve-middle.ensures.halved _ c.index-part-middle.is (λ e front answer. search rules) c.gather-level.ensures.kept c.gather-level.ensures.parted (omega arith) (omega arith)

pub returns-clause-kept : goal.returns-clause-kept
returns-clause-kept g c =
    IsPermutation-trans _ _ _ c.halve-middle.ensures.kept (IsPermutation-put_mid _ _ _ _ c.gather-level.ensures.kept)

pub returns-clause-narrowed : goal.returns-clause-narrowed
returns-clause-narrowed g c =
    narrowed_behind g.met.E.Element.total c.args.axis _ c.halve-middle.ensures.halved _ c.index-part-middle.is (λ e front answer. search rules) c.gather-level.ensures.kept c.gather-level.ensures.parted (omega arith) (omega (arith, c.halve-middle.auto.part))

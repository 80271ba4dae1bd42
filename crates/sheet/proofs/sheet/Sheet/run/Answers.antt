use Rattle.std.proofs.Common.{◌<◌, length, arith}
use Rattle.std.proofs.lemmas.Grind.{common_steps}
use Rattle.sheet.proofs.Running.{runs_next}
use Rattle.sheet.proofs.sheet.Sheet.run.Goals as goal

pub loop-entry-preserved : goal.loop-entry-preserved
loop-entry-preserved c =
    let past = c.loop-entry.invariant in
    let inside : c.loop-entry.entry-index < length c.loop-entry.journal = omega arith in
    record { ran = runs_next _ _ _ _ inside past.waiting _ past.ran c.apply-entry.ensures; waiting = grind (arith, common_steps) }

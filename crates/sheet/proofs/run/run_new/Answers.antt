use Rattle.std.proofs.Common.{rules}
use Rattle.sheet.proofs.Holding.{count-hits_after}
use Rattle.sheet.proofs.run.run_new.Goals as goal

pub returns-clause-same : goal.returns-clause-same
returns-clause-same c d = rw count-hits_after (search rules)

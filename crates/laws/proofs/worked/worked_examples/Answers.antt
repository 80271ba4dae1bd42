use Rattle.laws.proofs.Examples.{worked}
use Rattle.laws.proofs.worked.worked_examples.Goals as goal

pub returns : goal.returns
returns c = worked

use Rattle.numlist.proofs.Aboves.{part_some}
use Rattle.numlist.proofs.parts.part.Goals as goal

pub returns : goal.returns
returns c = part_some c.args.skip c.args.number c.if-skip-eq0.false c.if-number-skip-eq0.false

use Rattle.select.specs.Keys.{cells_total}
use Rattle.arrange.proofs.Computing.{arranges_tree}
use Rattle.sheet.proofs.Arranging.{arranged_placed}
use Rattle.sheet.proofs.sheet.Sheet.arrange.Goals as goal

pub invariant_of-self-clause-placed : goal.invariant_of-self-clause-placed
invariant_of-self-clause-placed c = arranged_placed c.args.self.now c.arrange.new.self c.arrange.ensures.tree

pub returns-clause-is : goal.returns-clause-is
returns-clause-is c = arranges_tree _ cells_total _ _ _ c.arrange.ensures.tree

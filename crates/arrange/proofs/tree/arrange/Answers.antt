-- What arranges the elements is their tree.
use Rattle.std.proofs.Common.{rules}
use Rattle.arrange.proofs.Computing.{arranges_tree}
use Rattle.arrange.proofs.tree.arrange.Goals as goal

pub returns-clause-is : goal.returns-clause-is
returns-clause-is g c = search (rules, arranges_tree _ g.met.E.Element.total)

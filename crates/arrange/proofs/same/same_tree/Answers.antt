use Rattle.arrange.proofs.Uniques.{one_arrangement, trees_tell}
use Rattle.arrange.proofs.same.same_tree.Goals as goal

pub returns : goal.returns
returns g c =
    let total = g.met.E.Element.total in
    record {
      tells = trees_tell _ total c.arrange.ensures.arranges c.arrange-2.ensures.arranges c.equal.result c.equal.ensures;
      one = one_arrangement _ total;
      first = c.arrange.ensures.arranges;
      second = c.arrange-2.ensures.arranges;
    }

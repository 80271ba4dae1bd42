use Rattle.spot.specs.Spots.{meant}
use Rattle.spot.proofs.Packings.{one_spot}
use Rattle.spot.proofs.run.run_and_pack.Goals as goal

pub returns-clause-one : goal.returns-clause-one
returns-clause-one g c = one_spot (meant c.args.make.now)

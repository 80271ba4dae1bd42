use Rattle.std.proofs.Common.{rules}
use Rattle.spot_c.proofs.packs.pack_hits.Goals as goal

pub returns-in_err-pack : goal.returns-in_err-pack
returns-in_err-pack g c = search rules

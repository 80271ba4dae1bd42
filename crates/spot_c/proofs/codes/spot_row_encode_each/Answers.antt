use Rattle.std.proofs.Common.{rules}
use Rattle.spot_c.proofs.codes.spot_row_encode_each.Goals as goal

-- what each call of the closure gives, by the closure's own calls
pub returns : goal.returns
returns c k h = let told = c.each.ensures k h in search rules

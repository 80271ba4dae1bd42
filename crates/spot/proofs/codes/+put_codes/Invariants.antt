use Rattle.std.proofs.Common.{length}
use Rattle.spot.proofs.codes.+put_codes.Given as goal

abbrev pub decreases-put_codes : goal.decreases-put_codes
decreases-put_codes g l = length l.part.now

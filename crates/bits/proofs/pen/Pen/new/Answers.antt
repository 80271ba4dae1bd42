use Rattle.std.proofs.Common.{refl}
use Rattle.bits.proofs.Writings.{written_none}
use Rattle.bits.proofs.pen.Pen.new.Goals as goal

pub returns : goal.returns
returns c w start = written_none w _ start refl refl refl

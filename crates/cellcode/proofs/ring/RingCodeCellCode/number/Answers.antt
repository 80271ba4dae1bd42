use Rattle.std.proofs.Common.{sym, arith}
use Rattle.cellcode.specs.Rings.{ring-none, ring-step}
use Rattle.cellcode.proofs.ring.RingCodeCellCode.number.Goals as goal

pub returns-then-d-eq0 : goal.returns-then-d-eq0
returns-then-d-eq0 c = sym (ring-none c.args._grid.side c.args.parent c.args.cell (omega arith))

pub returns : goal.returns
returns c =
    let number = ring-step c.args._grid.side c.max-d.result c.step.result c.args.parent c.args.cell (omega arith) (omega arith) (sym c.step.ensures) in
    cc

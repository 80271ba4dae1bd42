use Rattle.std.proofs.Common.{◌≡◌, ℕ, ◌≤◌, pos, sym, arith}
use Rattle.grid.specs.declared.cell.Cell.{Cell}
use Rattle.cellcode.specs.Ring.{step, along}
use Rattle.cellcode.specs.Steps.{Stands, stands_step, right, top, left, bottom}
use Rattle.cellcode.proofs.ring.Ring.step.Goals as goal

-- the side that the tests found gives the step
answered : (d s : ℕ) (p c : Cell) → 1 ≤ d → Stands d p.x p.y c.x c.y s → pos s ≡ step (pos d) (along p.x c.x) (along p.y c.y)
answered d s p c some at = sym (stands_step d p.x p.y c.x c.y s some at)

pub returns-then-cell-d : goal.returns-then-cell-d
returns-then-cell-d c =
    answered c.args.self.d _ c.args.parent c.args.cell c.requires.some
    (right (omega arith) (omega arith) (omega arith) (omega arith))

pub returns-then-cell-d-3 : goal.returns-then-cell-d-3
returns-then-cell-d-3 c =
    answered c.args.self.d _ c.args.parent c.args.cell c.requires.some
    (top (omega arith) (omega arith) (omega arith) (omega arith))

pub returns-then-cell-parent-2 : goal.returns-then-cell-parent-2
returns-then-cell-parent-2 c =
    answered c.args.self.d _ c.args.parent c.args.cell c.requires.some
    (left (omega arith) (omega arith) (omega arith) (omega arith))

pub returns : goal.returns
returns c =
    answered c.args.self.d _ c.args.parent c.args.cell c.requires.some
    (bottom (grind arith) (grind arith) (grind arith) (grind arith))

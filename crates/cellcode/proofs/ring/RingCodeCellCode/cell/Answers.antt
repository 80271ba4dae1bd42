use Rattle.std.proofs.Common.{rules, arith}
use Rattle.cellcode.proofs.Decoding.{past_all, few_steps, no_column, no_row, both}
use Rattle.cellcode.proofs.ring.RingCodeCellCode.cell.Goals as goal

pub returns-in_err-ring : goal.returns-in_err-ring
returns-in_err-ring c = search (rules, past_all)

pub overflow_cast-number : goal.overflow_cast-number
overflow_cast-number c = omega (arith, few_steps)

pub returns-in_err-x : goal.returns-in_err-x
returns-in_err-x c =
    rw c.from_residual-in_err-x.ensures (no_column _ _ _ _ _ c.in_ok-ring.ensures c.first.ensures _ c.place-across.ensures.across c.in_err-x.ensures)

pub returns-in_err-y : goal.returns-in_err-y
returns-in_err-y c =
    rw c.from_residual-in_err-y.ensures (no_row _ _ _ _ _ c.in_ok-ring.ensures c.first.ensures _ c.place-across.ensures.down c.in_err-y.ensures)

pub returns : goal.returns
returns c =
    both _ _ _ _ _ c.in_ok-ring.ensures c.first.ensures _ _ _ _ c.place-across.ensures.across c.place-across.ensures.down c.requires c.in_ok-x.ensures c.in_ok-y.ensures

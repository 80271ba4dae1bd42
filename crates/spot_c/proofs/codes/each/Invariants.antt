use Rattle.std.proofs.Common.{◌≡◌, ℕ, ◌<◌, ◌≤◌, get_or}
use Rattle.spot_c.proofs.codes.each.Given as goal

-- the numbers below the index are replaced, and the others are as they were
abbrev pub invariant-loop-number : goal.invariant-loop-number
invariant-loop-number g l = record {
  done : (k : ℕ) → k < l.number-index → goal.F-post g l.f (get_or l.initial.numbers k 0) (get_or l.numbers k 0);
  rest : (k : ℕ) → l.number-index ≤ k → get_or l.numbers k 0 ≡ get_or l.initial.numbers k 0;
}

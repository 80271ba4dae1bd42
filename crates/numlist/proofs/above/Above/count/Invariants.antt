use Rattle.std.proofs.Common.{◌≡◌, length, take}
use Rattle.numlist.specs.Parts.{above}
use Rattle.numlist.proofs.above.Above.count.Given as goal

-- the numbers so far are counted
abbrev pub invariant-loop-number : goal.invariant-loop-number
invariant-loop-number l = l.count ≡ length (above l.self-inside.skip (take l.number-index l.self-inside.numbers.now))

use Rattle.std.proofs.Common.{◌≡◌, ◌+◌, ◌-◌, ◌*◌, drop, sum}
use Rattle.bits.specs.Packing.{unpacked}
use Rattle.bits.proofs.counting.ones.Given as goal

-- what is counted, and what is left to count
abbrev pub invariant-loop-word : goal.invariant-loop-word
invariant-loop-word l =
    l.ones + sum (unpacked 1 (l.count - 64 * l.word-index) (drop (8 * l.word-index) l.rest)) ≡ sum (unpacked 1 l.count l.rest)

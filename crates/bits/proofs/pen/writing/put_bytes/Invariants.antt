use Rattle.std.proofs.Common.{◌≡◌, ◌-◌, ◌*◌, ◌/◌, ◌^◌, ◌++◌, take, drop}
use Rattle.bits.specs.Packing.{digits}
use Rattle.bits.proofs.pen.writing.put_bytes.Given as goal

-- the bytes below i are written, and those from i on are as they were
abbrev pub invariant-loop-i : goal.invariant-loop-i
invariant-loop-i l =
    (take l.i l.out ≡ take l.initial.from l.initial.out ++ digits 8 (l.i - l.initial.from) l.initial.number)
    × (drop l.i l.out ≡ drop l.i l.initial.out)
    × (l.rest ≡ l.initial.number / 2 ^ (8 * (l.i - l.initial.from)))

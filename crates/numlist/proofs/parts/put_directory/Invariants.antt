use Rattle.std.proofs.Common.{◌≡◌, ◌*◌, ◌≤◌, length, take, sum}
use Rattle.bits.specs.Packing.{unpacked}
use Rattle.bits.specs.Writing.{Written}
use Rattle.numlist.specs.Parts.{entries, directory}
use Rattle.numlist.proofs.parts.put_directory.Given as goal

-- the marks of the groups so far are counted, and the entries of these groups are written where there is room for all
abbrev pub invariant-loop-group : goal.invariant-loop-group
invariant-loop-group l = record {
  counted : l.before ≡ sum (take (256 * l.group) (unpacked 1 l.count.numbers l.marks));
  lent : l.writer.out.ghost_name ≡ l.initial.writer.out.ghost_name;
  written : 4 * entries l.count.numbers ≤ length l.fn.out → Written 32 l.writer.pen l.fn.out l.writer.out.now (take l.group (directory (unpacked 1 l.count.numbers l.marks)));
}

use Rattle.std.proofs.Common.{rules}
use Rattle.std.proofs.iter.runs.Sources.{ranges}
use Rattle.bits.specs.Packing.{unpacked}
use Rattle.bits.proofs.Packings.{length-unpacked}
use Rattle.numlist.proofs.Zeros.{NoZero, no_zeros}
use Rattle.numlist.proofs.fixed.FixedNumberList.has_no_zero.Goals as goal

pub returns : goal.returns
returns c n accepted =
    let all = unpacked c.args.self.now.width.bits c.args.count.numbers c.args.bytes.now in
    let each : NoZero c.args.count.numbers all c.all.result = search (rules, ranges) in
    no_zeros c.args.count.numbers all (length-unpacked c.args.self.now.width.bits c.args.count.numbers c.args.bytes.now) c.all.result each

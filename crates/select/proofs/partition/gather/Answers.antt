-- Each turn of the loop is a step of the partition.
use Rattle.std.proofs.Common.{arith}
use Rattle.std.proofs.lemmas.List.Sorted.{IsPermutation-trans, IsPermutation-swap}
use Rattle.select.proofs.Parting.{parted_more}
use Rattle.select.proofs.partition.gather.Goals as goal

pub loop-next-preserved : goal.loop-next-preserved
loop-next-preserved g c = record {
  kept = IsPermutation-trans _ _ _ c.loop-next.invariant.kept (IsPermutation-swap _ _ _ _ (omega arith) (omega (arith, c.loop-next.invariant.parted.to)) c.exchange.ensures);
  parted = parted_more _ _ _ c.loop-next.invariant.parted (omega arith) c.exchange.ensures c.index-part-next.is c.is_front.ensures c.from-border.ensures;
}

use Rattle.std.proofs.Common.{◌∙◌, length-set}
use Rattle.proof_build.proofs.ProofUnwind.OrderLaws.{ranks_more}
use Rattle.proof_build.proofs.proof_unwind.ordering.ranked.Goals as goal

pub loop-rank-preserved : goal.loop-rank-preserved
loop-rank-preserved c = record {
  long = length-set _ _ _ ∙ c.loop-rank.invariant.long;
  at = ranks_more c.args.order.now c.loop-rank.ranks.items c.loop-rank.rank c.requires.is_order c.loop-rank-test.true c.loop-rank.invariant.long c.loop-rank.invariant.at;
}

use Rattle.rank_lasso.proofs.LassoRanks.WalkSets.{counts_none}
use Rattle.rank_lasso.proofs.lasso_ranks.placing.is_none.Goals as goal

pub returns : goal.returns
returns c = let e = c.is_empty.ensures in rw e (counts_none c.args.pairs.now)

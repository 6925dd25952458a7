use Rattle.rank_lasso.proofs.LassoRanks.WalkSets.{comes_back_where}
use Rattle.rank_lasso.proofs.lasso_ranks.placing.comes_back.Goals as goal

pub returns : goal.returns
returns c =
    comes_back_where c.args.nwa.now c.args.turn.now c.args.ends.now c.in_ok-heads.heads.items c.in_ok-round.round.items c.all_end_elsewhere.result c.in_ok-heads.ensures c.in_ok-round.ensures
    (rw c.deref.ensures.value at c.all_end_elsewhere.ensures)

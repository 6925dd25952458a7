use Rattle.rank_lasso.proofs.LassoRanks.RankLaws.{ranks_say_few, few_turns_say_end}
use Rattle.rank_lasso.proofs.lasso_ranks.laws.ranked_lassos_end.Goals as goal

pub returns : goal.returns
returns c = λ g l r ok is over h. few_turns_say_end g l r (ranks_say_few g ok l r is.loop over h)

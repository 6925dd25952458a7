use Rattle.automizer_top.proofs.RankingConfirmed.{lasso_is_accepted}
use Rattle.automizer_top.proofs.running.rankings_are_accepted.Goals as goal

pub returns : goal.returns
returns c = lasso_is_accepted

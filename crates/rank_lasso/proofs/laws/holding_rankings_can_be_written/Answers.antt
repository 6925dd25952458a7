use Rattle.rank_lasso.proofs.OneText.{holding_rankings_can_be_written}
use Rattle.rank_lasso.proofs.laws.holding_rankings_can_be_written.Goals as goal

pub returns : goal.returns
returns c = holding_rankings_can_be_written

use Rattle.rank_lasso.proofs.OneText.{texts_have_one_ranking}
use Rattle.rank_lasso.proofs.laws.texts_have_one_ranking.Goals as goal

pub returns : goal.returns
returns c = texts_have_one_ranking

use Rattle.cond_jumps.proofs.ListLemmas.{paths_decide}
use Rattle.cond_jumps.proofs.laws.paths_mean.Goals as goal

pub returns : goal.returns
returns c = paths_decide

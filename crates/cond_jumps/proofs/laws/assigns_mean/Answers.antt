use Rattle.cond_jumps.proofs.ListLemmas.{assigns_decide}
use Rattle.cond_jumps.proofs.laws.assigns_mean.Goals as goal

pub returns : goal.returns
returns c = assigns_decide

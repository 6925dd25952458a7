use Rattle.cond_jumps.proofs.ListLemmas.{conditions_are_truths}
use Rattle.cond_jumps.proofs.laws.conditions_are_truths.Goals as goal

pub returns : goal.returns
returns c = conditions_are_truths

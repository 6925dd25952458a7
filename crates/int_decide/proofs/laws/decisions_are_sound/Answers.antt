use Rattle.int_decide.proofs.Worths.{decided_is_worth}
use Rattle.int_decide.proofs.laws.decisions_are_sound.Goals as goal

pub returns : goal.returns
returns c = decided_is_worth

use Rattle.letter_acts.proofs.MachineLemmas.{feasible_by_way}
use Rattle.letter_acts.proofs.laws.feasible_by_way.Goals as goal

pub returns : goal.returns
returns c = feasible_by_way

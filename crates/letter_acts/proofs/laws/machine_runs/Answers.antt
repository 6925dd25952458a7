use Rattle.letter_acts.proofs.MachineLemmas.{machine_runs}
use Rattle.letter_acts.proofs.laws.machine_runs.Goals as goal

pub returns : goal.returns
returns c = machine_runs

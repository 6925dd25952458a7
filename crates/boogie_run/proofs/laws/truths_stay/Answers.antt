use Rattle.boogie_run.proofs.TruthRuns.{truths_stay}
use Rattle.boogie_run.proofs.laws.truths_stay.Goals as goal

pub returns : goal.returns
returns c = λ t choices d valid e. truths_stay t valid choices d e

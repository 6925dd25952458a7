use Rattle.boogie_run.proofs.RunLaws.{run_cut}
use Rattle.boogie_run.proofs.laws.runs_are_cut.Goals as goal

pub returns : goal.returns
returns c = run_cut

use Rattle.nwa_base.proofs.RunLemmas.{accepted_by_run}
use Rattle.nwa_base.proofs.laws.accepted_by_run.Goals as goal

pub returns : goal.returns
returns c = accepted_by_run

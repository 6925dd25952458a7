use Rattle.boogie_run.proofs.RunLaws.{still_failed}
use Rattle.boogie_run.proofs.laws.failures_stay.Goals as goal

pub returns : goal.returns
returns c = still_failed

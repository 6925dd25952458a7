use Rattle.automizer_top.proofs.PartConfirmed.{verify_is_accepted, verify_is_replayed}
use Rattle.automizer_top.proofs.running.verdicts_are_confirmed.Goals as goal

pub returns-clause-accepted : goal.returns-clause-accepted
returns-clause-accepted c = verify_is_accepted

pub returns-clause-replayed : goal.returns-clause-replayed
returns-clause-replayed c = verify_is_replayed

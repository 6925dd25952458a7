use Rattle.boogie_run.proofs.RunRules.Safety.{machine_follows_rules}
use Rattle.boogie_run.proofs.run_rules.laws.machine_follows_rules.Goals as goal

pub returns : goal.returns
returns c t n = machine_follows_rules t n

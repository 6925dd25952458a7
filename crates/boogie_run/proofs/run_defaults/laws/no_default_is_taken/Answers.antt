use Rattle.boogie_run.proofs.RunDefaults.NoDefaults.{no_default_is_taken}
use Rattle.boogie_run.proofs.run_defaults.laws.no_default_is_taken.Goals as goal

pub returns : goal.returns
returns c = λ t choices d valid e. no_default_is_taken t valid choices d e

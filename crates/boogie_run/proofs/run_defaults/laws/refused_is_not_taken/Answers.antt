use Rattle.boogie_run.proofs.RunDefaults.Refusals.{refused_is_not_taken}
use Rattle.boogie_run.proofs.run_defaults.laws.refused_is_not_taken.Goals as goal

pub returns : goal.returns
returns c = λ t d choice. refused_is_not_taken t d choice

use Rattle.std.proofs.Common.{refl}
use Rattle.boogie_run.specs.RunView.{config_of}
use Rattle.boogie_run.proofs.WriteSteps.{forgotten}
use Rattle.boogie_run.proofs.frames.go.Goals as goal

pub returns-clause-went : goal.returns-clause-went
returns-clause-went c = λ _. forgotten _ (config_of c.args.config.now) (config_of c.go_keeping.new.config) _ (c.in_ok-go_keeping.ensures.went refl) c.clear_kept.ensures.value

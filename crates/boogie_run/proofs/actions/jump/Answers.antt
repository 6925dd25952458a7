use Rattle.std.proofs.Common.{arith}
use Rattle.boogie_run.specs.StepView.{happening}
use Rattle.boogie_run.proofs.TopSteps.{has_way}
use Rattle.boogie_run.proofs.actions.jump.Goals as goal

pub go-requires-clause-way : goal.go-requires-clause-way
go-requires-clause-way c = has_way (happening c.args.config.now) _ c.requires.here (omega arith)

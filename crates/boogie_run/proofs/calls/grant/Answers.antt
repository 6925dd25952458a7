use Rattle.std.proofs.Common.{arith}
use Rattle.boogie_run.specs.StepView.{happening}
use Rattle.boogie_run.proofs.TopSteps.{has_way}
use Rattle.boogie_run.proofs.calls.grant.Goals as goal

pub go_keeping-requires-clause-way : goal.go_keeping-requires-clause-way
go_keeping-requires-clause-way c = has_way (happening c.args.config.now) _ c.requires.here (omega arith)

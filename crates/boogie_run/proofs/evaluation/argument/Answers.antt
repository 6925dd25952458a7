use Rattle.boogie_run.specs.Ties.Environments.{state}
use Rattle.boogie_run.proofs.Members.{passed_past}
use Rattle.boogie_run.proofs.evaluation.argument.Goals as goal

pub returns-else-n-args : goal.returns-else-n-args
returns-else-n-args c = passed_past (state c.args.env) c.args.args.now c.args.n c.if-n-args.false

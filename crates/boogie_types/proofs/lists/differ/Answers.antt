use Rattle.std.proofs.Common.{arith}
use Rattle.boogie_types.proofs.TargetLaws.{few_are_set}
use Rattle.boogie_types.proofs.lists.differ.Goals as goal

pub returns-then-targets-lt2-clause-set : goal.returns-then-targets-lt2-clause-set
returns-then-targets-lt2-clause-set c = λ e. few_are_set c.args.targets.now (omega (arith, c.if-targets-lt2.true))

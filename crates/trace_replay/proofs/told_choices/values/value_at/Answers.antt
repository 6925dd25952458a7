use Rattle.std.proofs.Common.{arith}
use Rattle.std.proofs.lemmas.Int.{to_z-of_z}
use Rattle.lin_rows.proofs.PointLemmas.{get_or-point_of}
use Rattle.trace_replay.proofs.ToldChoices.Steps.{value_past}
use Rattle.trace_replay.proofs.told_choices.values.value_at.Goals as goal

pub returns-then-number-values-clause-value : goal.returns-then-number-values-clause-value
returns-then-number-values-clause-value c = grind (arith, to_z-of_z, get_or-point_of)

pub returns-else-number-values-clause-value : goal.returns-else-number-values-clause-value
returns-else-number-values-clause-value c = value_past c.args.values.now c.args.number c.if-number-values.false

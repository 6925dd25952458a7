use Rattle.lowered_graph.proofs.LoweredRuns.MachineLaws.{machines_fail, told_choices_fail}
use Rattle.lowered_graph.proofs.lowered_runs.laws.machines_of_typed_programs.Goals as goal

pub returns-clause-fails : goal.returns-clause-fails
returns-clause-fails c = machines_fail

pub returns-clause-told : goal.returns-clause-told
returns-clause-told c = told_choices_fail

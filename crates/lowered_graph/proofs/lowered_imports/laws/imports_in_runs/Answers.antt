use Rattle.lowered_graph.specs.LoweredImports.KnownPoints.{IsPointOf}
use Rattle.lowered_graph.proofs.LoweredImports.ImportRuns as runs
use Rattle.lowered_graph.proofs.lowered_imports.laws.imports_in_runs.Goals as goal

pub returns-clause-run : goal.returns-clause-run
returns-clause-run a t c d g i rest = runs.imports_run t (IsPointOf t) c d g i rest

pub returns-clause-steps : goal.returns-clause-steps
returns-clause-steps a = runs.choices_are_steps

pub returns-clause-back : goal.returns-clause-back
returns-clause-back a t c f args choices n g k h = runs.runs_import t (IsPointOf t) c f args choices n g k h

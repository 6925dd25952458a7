use Rattle.boogie_run.specs.RunView.{FitsProgram}
use Rattle.language_table.proofs.runs.show_steps.Given as goal

abbrev pub invariant-loop-more : goal.invariant-loop-more
invariant-loop-more l = FitsProgram l.program l.config

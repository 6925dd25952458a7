use Rattle.std.specs.HashSet.{contains}
use Rattle.proof_check.proofs.IndexLaws.{Keys}
use Rattle.proof_check.proofs.EntryLaws.{same_three, step_key}
use Rattle.proof_check.proofs.index.steps_of.Given as goal

abbrev pub invariant-loop-step : goal.invariant-loop-step
invariant-loop-step l = Keys step_key l.moves l.step-index (contains same_three l.steps)

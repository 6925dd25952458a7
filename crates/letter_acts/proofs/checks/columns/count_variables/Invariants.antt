use Rattle.std.proofs.Common.{◌≡◌, ◌+◌, ◌≤◌, drop, length}
use Rattle.letter_acts.specs.Frames.{is_variable, places, variables_of}
use Rattle.letter_acts.proofs.checks.columns.count_variables.Given as goal

abbrev pub invariant-loop-i : goal.invariant-loop-i
invariant-loop-i l = (l.count ≤ l.i) × (l.count + length (places is_variable l.i (drop l.i l.frame)) ≡ length (variables_of l.frame))

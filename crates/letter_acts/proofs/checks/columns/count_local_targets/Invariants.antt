use Rattle.std.proofs.Common.{◌≡◌, ◌+◌, ◌≤◌, drop, length}
use Rattle.letter_acts.specs.Checks.{local_targets}
use Rattle.letter_acts.proofs.checks.columns.count_local_targets.Given as goal

abbrev pub invariant-loop-i : goal.invariant-loop-i
invariant-loop-i l = (l.count ≤ l.i) × (l.count + length (local_targets l.frame (drop l.i l.targets)) ≡ length (local_targets l.frame l.targets))

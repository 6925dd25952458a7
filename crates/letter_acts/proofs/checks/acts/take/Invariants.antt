use Rattle.std.proofs.Common.{◌↔◌, ◌≤◌, length, drop}
use Rattle.letter_acts.specs.Frames.{places, is_result, result_columns}
use Rattle.letter_acts.specs.Invariant.{Take}
use Rattle.letter_acts.proofs.checks.acts.take.Given as goal

abbrev pub invariant-loop-i : goal.invariant-loop-i
invariant-loop-i l = (l.taken ≤ length l.targets) × (Take l.caller l.callee (drop l.taken l.targets) (places is_result l.i (drop l.i l.callee)) ↔ Take l.caller l.callee l.targets (result_columns l.callee))

use Rattle.std.proofs.Common.{◌≡◌, ◌++◌, drop}
use Rattle.std.specs.Prelude.{filter, not}
use Rattle.letter_acts.specs.Invariant.{is_global_at}
use Rattle.letter_acts.specs.Frames.{variables_of}
use Rattle.nested_itp.proofs.triple_steps.ties.written.Given as goal

abbrev pub invariant-loop-i : goal.invariant-loop-i
invariant-loop-i l = l.written.items ++ filter (λ t. not (is_global_at l.caller t)) (drop l.i l.targets) ≡ variables_of l.caller ++ filter (λ t. not (is_global_at l.caller t)) l.targets

use Rattle.std.proofs.Common.{◌≡◌, take}
use Rattle.trace_replay.specs.FailureText.{numbers}
use Rattle.race_rounds.proofs.failing.numbers_of.Given as goal

abbrev pub invariant-loop-choice : goal.invariant-loop-choice
invariant-loop-choice l = l.values.items ≡ numbers (take l.choice-index l.choices)

use Rattle.std.proofs.Common.{◌≡◌, take}
use Rattle.trace_replay.specs.FailureText.{numbers}
use Rattle.race_verdicts.proofs.failures.choices_from.Given as goal

abbrev pub invariant-loop-value : goal.invariant-loop-value
invariant-loop-value l = numbers l.choices.items ≡ take l.value-index l.values

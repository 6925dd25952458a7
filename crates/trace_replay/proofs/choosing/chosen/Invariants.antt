use Rattle.std.proofs.Common.{◌≡◌, ◌++◌, drop}
use Rattle.std.specs.List.{AllByRecursion}
use Rattle.math_facts.specs.Fits.{Fits}
use Rattle.trace_replay.specs.ToldChoices.Telling.{ChoicesFit}
use Rattle.trace_replay.specs.FailureText.{numbers}
use Rattle.trace_replay.specs.Replays.{choices_among}
use Rattle.trace_replay.proofs.choosing.chosen.Given as goal

abbrev pub invariant-loop-step : goal.invariant-loop-step
invariant-loop-step l = record {
  value : numbers l.choices.items ++ choices_among (drop l.step-index l.taken) ≡ choices_among l.taken;
  left : ChoicesFit l.taken → ChoicesFit (drop l.step-index l.taken);
  fits : ChoicesFit l.taken → AllByRecursion Fits (numbers l.choices.items);
}

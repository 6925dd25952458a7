use Rattle.std.proofs.Common.{◌≡◌, ◌++◌, map, Some, drop}
use Rattle.std.specs.List.{AllByRecursion}
use Rattle.math_facts.specs.Fits.{Fits}
use Rattle.trace_replay.specs.ToldChoices.Telling.{ChoicesFit}
use Rattle.trace_replay.proofs.told_choices.telling.add_some.Given as goal

abbrev pub invariant-loop-value : goal.invariant-loop-value
invariant-loop-value l = record {
  value : l.told.items ++ map Some (drop l.value-index l.values) ≡ l.fn.told.items ++ map Some l.values;
  fits : AllByRecursion Fits l.values → ChoicesFit l.fn.told.items → ChoicesFit l.told.items;
}

use Rattle.std.proofs.Common.{◌≡◌, ◌++◌, map, Some, drop}
use Rattle.std.specs.List.{AllByRecursion}
use Rattle.math_facts.specs.Fits.{Fits}
use Rattle.trace_replay.specs.ToldChoices.Telling.{ChoicesFit}
use Rattle.letter_acts.specs.Values.{picked}
use Rattle.trace_replay.proofs.told_choices.imports.add_values.Given as goal

abbrev pub invariant-loop-column : goal.invariant-loop-column
invariant-loop-column l = record {
  value : l.told.items ++ map Some (picked l.after (drop l.column-index l.columns)) ≡ l.fn.told.items ++ map Some (picked l.after l.columns);
  fits : AllByRecursion Fits l.after → ChoicesFit l.fn.told.items → ChoicesFit l.told.items;
}

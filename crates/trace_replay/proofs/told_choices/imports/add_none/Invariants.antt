use Rattle.std.proofs.Common.{◌≡◌, ◌++◌, replicate, None}
use Rattle.trace_replay.specs.ToldChoices.Telling.{ChoicesFit}
use Rattle.trace_replay.proofs.told_choices.imports.add_none.Given as goal

abbrev pub invariant-loop-i : goal.invariant-loop-i
invariant-loop-i l = record {
  value : l.told.items ≡ l.fn.told.items ++ replicate l._i None;
  fits : ChoicesFit l.fn.told.items → ChoicesFit l.told.items;
}

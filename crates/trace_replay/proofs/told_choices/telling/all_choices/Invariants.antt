use Rattle.std.proofs.Common.{◌≡◌, ◌++◌, drop}
use Rattle.std.specs.List.{AllByRecursion}
use Rattle.typed_tree.specs.TypingRules.TypedParts.{typed_program}
use Rattle.trace_replay.specs.ToldChoices.Telling.{further_choices, ChoicesFit, PositionFits}
use Rattle.trace_replay.specs.ToldChoices.Ties.Views.{plain_kinds, plain_positions}
use Rattle.trace_replay.proofs.told_choices.telling.all_choices.Given as goal

abbrev pub invariant-loop-next : goal.invariant-loop-next
invariant-loop-next l = record {
  value : l.told.items ++ further_choices (typed_program l.program) (plain_kinds l.kinds) l.nwa.insides l.here (plain_positions (drop l.next-index l.more))
      ≡ l.initial.told.items ++ further_choices (typed_program l.program) (plain_kinds l.kinds) l.nwa.insides l.initial.here (plain_positions l.more);
  left : AllByRecursion PositionFits (plain_positions (drop l.next-index l.more));
  fits : ChoicesFit l.told.items;
}

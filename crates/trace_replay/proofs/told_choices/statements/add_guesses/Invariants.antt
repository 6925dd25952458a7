use Rattle.std.proofs.Common.{◌≡◌, ◌++◌, map, drop}
use Rattle.trace_replay.specs.ToldChoices.Ties.Walks.{guess}
use Rattle.trace_replay.specs.ToldChoices.Ties.Views.{plain_kinds}
use Rattle.trace_replay.proofs.told_choices.statements.add_guesses.Given as goal

abbrev pub invariant-loop-column : goal.invariant-loop-column
invariant-loop-column l = plain_kinds l.kinds.items ++ map (guess l.frame) (drop l.column-index l.columns) ≡ plain_kinds l.fn.kinds.items ++ map (guess l.frame) l.columns

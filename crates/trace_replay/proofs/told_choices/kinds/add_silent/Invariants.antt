use Rattle.std.proofs.Common.{◌≡◌, ◌++◌}
use Rattle.trace_replay.specs.ToldChoices.Ties.Walks.{silent}
use Rattle.trace_replay.specs.ToldChoices.Ties.Views.{plain_kinds}
use Rattle.trace_replay.proofs.told_choices.kinds.add_silent.Given as goal

abbrev pub invariant-loop-i : goal.invariant-loop-i
invariant-loop-i l = plain_kinds l.kinds.items ≡ plain_kinds l.fn.kinds.items ++ silent l._i

use Rattle.std.proofs.Common.{◌≡◌, ◌++◌, drop}
use Rattle.typed_tree.specs.TypingRules.TypedParts.{typed_program}
use Rattle.trace_replay.specs.ToldChoices.Ties.Walks.{kinds_from, program_kinds}
use Rattle.trace_replay.specs.ToldChoices.Ties.Views.{plain_kinds}
use Rattle.trace_replay.proofs.told_choices.table.kinds_of.Given as goal

abbrev pub invariant-loop-proc : goal.invariant-loop-proc
invariant-loop-proc l = plain_kinds l.kinds.items ++ kinds_from (typed_program l.program) l.proc (drop l.proc (typed_program l.program).procs) ≡ program_kinds (typed_program l.program)

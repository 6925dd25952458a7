use Rattle.std.proofs.Common.{◌≡◌, ◌++◌, map, drop}
use Rattle.typed_tree.specs.TypedView as view
use Rattle.trace_replay.specs.ToldChoices.Ties.Walks.{block_kinds}
use Rattle.trace_replay.specs.ToldChoices.Ties.Views.{plain_kinds}
use Rattle.trace_replay.proofs.told_choices.statements.+statements.Given as goal

abbrev pub invariant-add_block-loop-statement : goal.invariant-add_block-loop-statement
invariant-add_block-loop-statement l = plain_kinds l.kinds.items ++ block_kinds (map view.procedure l.procs) l.frame (view.statements (drop l.statement-index l.listed)) ≡ plain_kinds l.fn.kinds.items ++ block_kinds (map view.procedure l.procs) l.frame (view.statements l.listed)

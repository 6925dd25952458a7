use Rattle.std.proofs.Common.{◌≡◌, ◌+◌, ◌≤◌, map, length, drop}
use Rattle.typed_tree.specs.TypedView as view
use Rattle.boogie_run.specs.BoogiePoints.Actions.{ensured_conditions}
use Rattle.trace_replay.proofs.told_choices.statements.ensured.Given as goal

abbrev pub invariant-loop-said : goal.invariant-loop-said
invariant-loop-said l = record {
  fits : l.count ≤ l.said-index;
  counted : l.count + length (ensured_conditions (map view.specification (drop l.said-index l.specs))) ≡ length (ensured_conditions (map view.specification l.specs));
}

use Rattle.std.proofs.Common.{◌≡◌, ◌≤◌, ◌+◌, map, drop, take}
use Rattle.typed_tree.specs.TypedView as view
use Rattle.typed_tree.specs.TypingRules.Counts.{plain_invariants, plain_ensures}
use Rattle.boogie_run.specs.BoogiePoints.Actions.{ensured_conditions}
use Rattle.boogie_run.proofs.boogie_points.counts.plain_before.Given as goal

abbrev pub invariant-loop-said : goal.invariant-loop-said
invariant-loop-said l = record {
  within : l.count + plain_ensures (map view.specification (drop l.said-index l.specs)) ≤ plain_ensures (map view.specification l.specs);
  counted : l.count + plain_invariants (take l.left (ensured_conditions (map view.specification (drop l.said-index l.specs)))) ≡ plain_invariants (take l.part (ensured_conditions (map view.specification l.specs)));
}

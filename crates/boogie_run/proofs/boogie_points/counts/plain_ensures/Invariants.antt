use Rattle.std.proofs.Common.{◌≡◌, ◌+◌, map, drop}
use Rattle.typed_tree.specs.TypedView as view
use Rattle.typed_tree.specs.TypingRules.Counts.{plain_ensures}
use Rattle.boogie_run.proofs.boogie_points.counts.plain_ensures.Given as goal

abbrev pub invariant-loop-said : goal.invariant-loop-said
invariant-loop-said l = l.count + plain_ensures (map view.specification (drop l.said-index l.specs)) ≡ plain_ensures (map view.specification l.specs)

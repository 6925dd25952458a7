use Rattle.std.proofs.Common.{◌≡◌, ◌+◌, map, drop}
use Rattle.typed_tree.specs.TypedView as view
use Rattle.typed_tree.specs.TypingRules.Counts.{all_ensures}
use Rattle.boogie_run.proofs.boogie_points.counts.all_ensures.Given as goal

abbrev pub invariant-loop-said : goal.invariant-loop-said
invariant-loop-said l = l.count + all_ensures (map view.specification (drop l.said-index l.specs)) ≡ all_ensures (map view.specification l.specs)

use Rattle.std.proofs.Common.{◌≡◌, ◌≤◌, ◌++◌, drop, length}
use Rattle.typed_tree.specs.TypedView as view
use Rattle.typed_tree.specs.TypingRules.Rules.{own_labels}
use Rattle.typed_tree.proofs.typing_rules.labels.Labels.enter.Given as goal

abbrev pub decreases-loop-left : goal.decreases-loop-left
decreases-loop-left l = l.left

abbrev pub invariant-loop-left : goal.invariant-loop-left
invariant-loop-left l = record {
  within : l.left ≤ length l.statements;
  entered : l.self ≡ own_labels (view.statements (drop l.left l.statements)) ++ l.fn.self;
}

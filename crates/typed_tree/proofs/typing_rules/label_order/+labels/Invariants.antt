use Rattle.std.proofs.Common.{◌≡◌, drop}
use Rattle.typed_tree.specs.TypedView as view
use Rattle.typed_tree.specs.TypingRules.Ties.LabelOrder.{counted_to}
use Rattle.typed_tree.specs.TypingRules.Shape.{block_labels}
use Rattle.typed_tree.proofs.typing_rules.label_order.+labels.Given as goal

abbrev pub invariant-block_labels-loop-counted : goal.invariant-block_labels-loop-counted
invariant-block_labels-loop-counted l =
    counted_to l.reached (block_labels (view.statements (drop l.counted-index l.listed))) ≡ counted_to l.fn.next (block_labels (view.statements l.listed))

use Rattle.std.proofs.Common.{◌≡◌, ◌++◌, drop}
use Rattle.boogie_tree.specs.View as view
use Rattle.boogie_types.specs.Ties.Numbers.{named_by}
use Rattle.boogie_types.specs.Sorted.{block_labels}
use Rattle.boogie_types.proofs.Weights.{weight, block_weight}
use Rattle.boogie_types.proofs.label_names.+label_names.Given as goal

abbrev pub decreases-add_inside : goal.decreases-add_inside
decreases-add_inside l = weight (view.statement l.statement.now)

abbrev pub decreases-add_labels : goal.decreases-add_labels
decreases-add_labels l = block_weight (view.statements l.statements.now)

abbrev pub invariant-add_labels-loop-each : goal.invariant-add_labels-loop-each
invariant-add_labels-loop-each l = named_by l.names.items ++ block_labels (view.statements (drop l.each-index l.statements)) ≡ named_by l.fn.names.items ++ block_labels (view.statements l.statements)

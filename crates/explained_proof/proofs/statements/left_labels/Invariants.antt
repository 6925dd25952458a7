use Rattle.std.proofs.Common.{◌≡◌, ◌++◌, length}
use Rattle.boogie_tree.specs.View as tree
use Rattle.explained_proof.specs.Statements as spec
use Rattle.explained_proof.proofs.statements.left_labels.Given as goal

abbrev pub invariant-loop-first : goal.invariant-loop-first
invariant-loop-first l = l.list.items ++ spec.left_labels (tree.statements l.left) ≡ spec.left_labels (tree.statements l.statements)

abbrev pub decreases-loop-first : goal.decreases-loop-first
decreases-loop-first l = length l.left

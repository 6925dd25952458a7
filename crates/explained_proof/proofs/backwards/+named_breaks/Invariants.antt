use Rattle.std.proofs.Common.{◌≡◌, drop}
use Rattle.boogie_tree.specs.View as tree
use Rattle.explained_proof.specs.Backwards as spec
use Rattle.explained_proof.proofs.backwards.+named_breaks.Given as goal

abbrev pub invariant-some_breaks_to-loop-statement : goal.invariant-some_breaks_to-loop-statement
invariant-some_breaks_to-loop-statement l =
    spec.some_breaks_to l.name (tree.statements (drop l.statement-index l.statements)) ≡ spec.some_breaks_to l.name (tree.statements l.statements)

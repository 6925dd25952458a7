use Rattle.std.proofs.Common.{◌≡◌, ◌++◌, map}
use Rattle.boogie_tree.specs.View as tree
use Rattle.explained_proof.specs.Statements as spec
use Rattle.explained_proof.proofs.statements.assertions_of.Given as goal

abbrev pub invariant-loop-clause : goal.invariant-loop-clause
invariant-loop-clause l =
    map tree.statement l.list.items ++ map spec.asserted (map tree.expression l.clause-iterator.rest.items) ≡ map spec.asserted (map tree.expression l.fn.clauses.items)

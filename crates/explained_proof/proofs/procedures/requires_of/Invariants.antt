use Rattle.std.proofs.Common.{◌≡◌, ◌++◌, map}
use Rattle.boogie_tree.specs.Tree as plain
use Rattle.boogie_tree.specs.View as tree
use Rattle.explained_proof.specs.Statements.{condition}
use Rattle.explained_proof.proofs.procedures.requires_of.Given as goal

abbrev pub invariant-loop-clause : goal.invariant-loop-clause
invariant-loop-clause l =
    map tree.specification l.list.items ++ map (λ e. plain.Requires (condition e)) (map tree.expression l.clause-iterator.rest.items) ≡
    map (λ e. plain.Requires (condition e)) (map tree.expression l.fn.clauses.items)

use Rattle.std.proofs.Common.{map, drop}
use Rattle.boogie_tree.specs.View as tree
use Rattle.explained_proof.specs.RowExpressions.Sums as spec
use Rattle.explained_proof.specs.RowExpressions.Views as view
use Rattle.explained_proof.proofs.RowExpressions.Gathering.{Gathers}
use Rattle.explained_proof.proofs.row_expressions.sums.side.Given as goal

abbrev pub invariant-loop-column : goal.invariant-loop-column
invariant-loop-column l =
    Gathers (spec.side (view.scope l.scope) l.positive l.terms) (map tree.expression l.said.items) (spec.side (view.scope l.scope) l.positive (drop l.column-index l.terms))

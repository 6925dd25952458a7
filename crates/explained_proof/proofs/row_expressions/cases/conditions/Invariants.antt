use Rattle.std.proofs.Common.{map, drop}
use Rattle.boogie_tree.specs.View as tree
use Rattle.explained_proof.specs.RowExpressions.Cases as spec
use Rattle.explained_proof.specs.RowExpressions.Views as view
use Rattle.explained_proof.proofs.RowExpressions.Gathering.{Gathers}
use Rattle.explained_proof.proofs.row_expressions.cases.conditions.Given as goal

abbrev pub invariant-loop-place : goal.invariant-loop-place
invariant-loop-place l =
    Gathers (spec.conditions (view.scope l.scope) l.truths l.case) (map tree.expression l.said.items) (spec.conditions (view.scope l.scope) (drop l.place l.truths) (drop l.place l.case))

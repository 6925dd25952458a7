use Rattle.std.proofs.Common.{map, drop}
use Rattle.boogie_tree.specs.View as tree
use Rattle.explained_proof.specs.RowExpressions.Rows as spec
use Rattle.explained_proof.specs.RowExpressions.Views as view
use Rattle.explained_proof.proofs.RowExpressions.Gathering.{Gathers}
use Rattle.explained_proof.proofs.row_expressions.rows.by_cases.Given as goal

abbrev pub invariant-loop-case : goal.invariant-loop-case
invariant-loop-case l =
    Gathers (spec.cases_said (view.scope l.scope) (view.split l.split) l.equal l.bound (map (λ c. c.items) l.cases.items)) (map tree.expression l.said.items)
    (spec.cases_said (view.scope l.scope) (view.split l.split) l.equal l.bound (map (λ c. c.items) (drop l.case-index l.cases.items)))

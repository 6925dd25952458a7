use Rattle.std.proofs.Common.{◌≡◌, [], take, drop}
use Rattle.explained_proof.specs.RowExpressions.Views as scopes
use Rattle.explained_proof.specs.FactExpressions.EntryRows as spec
use Rattle.explained_proof.specs.FactExpressions.Views as view
use Rattle.explained_proof.specs.BuiltExpressions.Members.{with_members}
use Rattle.explained_proof.specs.BuiltExpressions.Views.{conjuncts}
use Rattle.explained_proof.proofs.fact_expressions.entry_rows.add_rows.Given as goal

abbrev pub invariant-loop-place : goal.invariant-loop-place
invariant-loop-place l = with_members (conjuncts l.members) (spec.rows_said (scopes.scope l.scope) (take l.place (view.rows l.rows)) (drop l.place (view.rows l.rows))) ≡
    with_members (conjuncts l.initial.members) (spec.rows_said (scopes.scope l.scope) [] (view.rows l.rows))

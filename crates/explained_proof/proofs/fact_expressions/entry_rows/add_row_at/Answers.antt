use Rattle.std.proofs.Common.{◌≡◌, ◌∙◌, List, OnOk, map, sym, ap, subst}
use Rattle.std.specs.Borrow.{Bor}
use Rattle.lin_rows.specs.Rows.{LinearRow}
use Rattle.boogie_tree.specs.View.{expression}
use Rattle.explained_proof.specs.BuiltExpressions.Members.{with_members}
use Rattle.explained_proof.specs.BuiltExpressions.Views.{conjuncts}
use Rattle.explained_proof.proofs.BuiltExpressions.Conjunctions.{with_none}
use Rattle.explained_proof.specs.RowExpressions.Views as scopes
use Rattle.explained_proof.specs.FactExpressions.EntryRows.{has_opposite}
use Rattle.explained_proof.specs.FactExpressions.Views.{rows}
use Rattle.explained_proof.proofs.FactExpressions.RangeLaws.{range_from}
use Rattle.explained_proof.proofs.FactExpressions.EntryLaws.{said_before, said_here}
use Rattle.explained_proof.proofs.fact_expressions.entry_rows.add_row_at.Goals as goal

pub returns-then-has_opposite : goal.returns-then-has_opposite
returns-then-has_opposite c =
    sym (ap (with_members (conjuncts c.args.members.now)) (said_before (scopes.scope c.args.scope.now) c.args.rows.now c.args.place c.index-rows-place.result c.requires c.index-rows-place.is c.if-has_opposite.ensures) ∙
    with_none c.args.members.now.never (map expression c.args.members.now.said.items))

pub returns : goal.returns
returns c =
    subst (λ m. OnOk c.add_row.result (conjuncts c.add_row.new.members ≡ with_members (conjuncts c.args.members.now) m))
    (said_here (scopes.scope c.args.scope.now) c.args.rows.now c.args.place c.index-rows-place.result c.has_opposite-equal.result c.requires c.index-rows-place.is c.if-has_opposite.ensures
    (c.has_opposite-equal.ensures ∙ ap (λ (rs : List (Bor LinearRow)). has_opposite (rows rs) c.index-rows-place.result.now) (range_from c.args.rows.now c.args.place)))
    c.add_row.ensures

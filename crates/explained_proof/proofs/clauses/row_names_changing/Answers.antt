use Rattle.std.proofs.Common.{◌∙◌, ℕ, ℤ, Bool, pos, sym, ap}
use Rattle.std.specs.List.{list_any}
use Rattle.std.proofs.lemmas.List.Folds.{list_any_at}
use Rattle.explained_proof.specs.RowExpressions.Scopes.{may_change}
use Rattle.explained_proof.specs.RowExpressions.Views as scopes
use Rattle.explained_proof.proofs.clauses.row_names_changing.Goals as goal

pub returns-then-may_change : goal.returns-then-may_change
returns-then-may_change c =
    let P : ℕ × ℤ → Bool = λ t. may_change (scopes.scope c.args.scope.now) t.0 in
    sym (list_any_at P c.terms-column-items.result.now c.loop-column.column-index (0, pos 0) c.loop-column-test.true (sym c.if-may_change.ensures)) ∙
    ap (list_any P) c.terms-column-items.ensures.value

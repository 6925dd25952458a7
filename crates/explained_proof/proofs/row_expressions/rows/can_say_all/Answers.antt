use Rattle.std.proofs.Common.{ℕ, ℤ, pos, sym}
use Rattle.std.proofs.lemmas.List.Folds.{list_all_at}
use Rattle.explained_proof.specs.RowExpressions.Scopes as scopes
use Rattle.explained_proof.specs.RowExpressions.Views as view
use Rattle.explained_proof.proofs.row_expressions.rows.can_say_all.Goals as goal

pub returns-then-not-can_say : goal.returns-then-not-can_say
returns-then-not-can_say c =
    sym (list_all_at (λ (t : ℕ × ℤ). scopes.can_say (view.scope c.args.scope.now) t.0) c.args.terms.now c.loop-column.column-index (0, pos 0) c.loop-column-test.true (sym c.if-not-can_say.ensures))

-- Typed programs may be seen by several threads. The search that is tried by itself stops at their statements, so each part has a
-- lemma.
use mathlib.Core.List.{List, [], ◌∷◌}
use Prim.Native.Nat.{ℕ}
use denote.RattleType.{RattleType}
use denote.Struct.Field.{row_field}
use denote.Struct.Tuple.{TupleAt, type_at}
use denote.Param.SendFields.{declared_send, as_row_send}
use denote.Param.Send.{IsSend, IsSync, sendable}
use Rattle.std.proofs.Crossing as std
use Rattle.boogie_tree.specs.contracts.text.Text as text
use Rattle.boogie_tree.specs.contracts.tree.VarInfo as variable
use Rattle.typed_tree.specs.contracts.types.TExpr as expr
use Rattle.typed_tree.specs.contracts.types.TSpec as spec
use Rattle.typed_tree.specs.contracts.types.TStmt as stmt
use Rattle.typed_tree.specs.contracts.types.TProc as proc
use Rattle.typed_tree.specs.contracts.typing_rules.program.Typed as typed
use Rattle.boogie_tree.proofs.span.Span.TheSendSync as span
use Rattle.boogie_tree.proofs.tree.Column.TheSendSync as column
use Rattle.boogie_tree.proofs.tree.Op.TheSendSync as op
use Rattle.boogie_tree.proofs.tree.Ty.TheSendSync as ty
use Rattle.typed_tree.proofs.types.TExprKind.TheLaws.TheKnot as expressions
use Rattle.typed_tree.proofs.types.TStmt.TheLaws.TheKnot as statements

ruleset parts_sync = (sendable, std.crosses, span.the_field_sync, column.the_field_sync, column.the_sync, op.the_field_sync, ty.the_field_sync, ty.the_sync)

text_sync : IsSync text.the_row
text_sync = search (sendable, std.crosses) depth 40

variable_sync : IsSync (variable.the_field).row
variable_sync = search (parts_sync, text_sync) depth 40

expression_sync : IsSync (expr.the_field).row
expression_sync = search (parts_sync, expressions.crosses) depth 40

specification_sync : IsSync spec.the_row
specification_sync = search (parts_sync, expression_sync) depth 40

statement_sync : IsSync stmt.the_row
statement_sync = search (parts_sync, expression_sync, statements.crosses) depth 40

procedure_sync : IsSync (proc.the_field).row
procedure_sync = search (parts_sync, text_sync, variable_sync, specification_sync, statement_sync) depth 40

pub typed_sync : IsSync typed.the_row
typed_sync = search (parts_sync, variable_sync, expression_sync, procedure_sync) depth 40

pub closure_send : (n : List ℕ) (A B C D E F G H I : RattleType) → IsSend A → IsSend B → IsSend C → IsSend D → IsSend E → IsSend F → IsSend G →
    IsSend H → IsSend I → IsSend (TupleAt n (A ∷ B ∷ C ∷ D ∷ E ∷ F ∷ G ∷ H ∷ I ∷ []))
closure_send n A B C D E F G H I a b c d e f g h i =
    declared_send (type_at n (A ∷ B ∷ C ∷ D ∷ E ∷ F ∷ G ∷ H ∷ I ∷ [])) (
      as_row_send (row_field A) a,
      (
        as_row_send (row_field B) b,
        (
          as_row_send (row_field C) c,
          (
            as_row_send (row_field D) d,
            (
              as_row_send (row_field E) e,
              (
                as_row_send (row_field F) f,
                (
                  as_row_send (row_field G) g,
                  (
                    as_row_send (row_field H) h,
                    (as_row_send (row_field I) i, tt),
                  ),
                ),
              ),
            ),
          ),
        ),
      ),
    )

-- Programs may go from one thread to another, and may be seen by several. The search that is tried by itself stops at declarations,
-- which hold procedures twice, so each part has a lemma.
use denote.Param.Send.{IsSend, IsSync, sendable}
use Rattle.std.proofs.Crossing as std
use Rattle.boogie_tree.specs.contracts.tree.Expr as expr
use Rattle.boogie_tree.specs.contracts.tree.Spec as spec
use Rattle.boogie_tree.specs.contracts.tree.Body as body
use Rattle.boogie_tree.specs.contracts.tree.Proc as proc
use Rattle.boogie_tree.specs.contracts.tree.Decl as decl
use Rattle.boogie_tree.specs.contracts.tree.Program as program
use Rattle.boogie_tree.proofs.span.Span.TheSendSync as span
use Rattle.boogie_tree.proofs.tree.Name.TheSendSync as name
use Rattle.boogie_tree.proofs.tree.Op.TheSendSync as op
use Rattle.boogie_tree.proofs.tree.Vary.TheSendSync as vary
use Rattle.boogie_tree.proofs.tree.ExprKind.TheLaws.TheKnot as kind
use Rattle.boogie_tree.proofs.tree.Stmt.TheLaws.TheKnot as stmt

ruleset parts_send = (sendable, std.crosses, span.the_field_send, name.the_field_send, name.the_send, op.the_field_send, vary.the_field_send, vary.the_send)

expression_send : IsSend (expr.the_field).row
expression_send = search (parts_send, kind.crosses) depth 40

specification_send : IsSend spec.the_row
specification_send = search (parts_send, expression_send) depth 40

body_send : IsSend body.the_row
body_send = search (parts_send, expression_send, stmt.crosses) depth 40

procedure_send : IsSend (proc.the_field).row
procedure_send = search (parts_send, specification_send, body_send) depth 40

declaration_send : IsSend decl.the_row
declaration_send = search (parts_send, expression_send, procedure_send) depth 40

pub program_send : IsSend program.the_row
program_send = search (sendable, std.crosses, declaration_send) depth 40

ruleset parts_sync = (sendable, std.crosses, span.the_field_sync, name.the_field_sync, name.the_sync, op.the_field_sync, vary.the_field_sync, vary.the_sync)

expression_sync : IsSync (expr.the_field).row
expression_sync = search (parts_sync, kind.crosses) depth 40

specification_sync : IsSync spec.the_row
specification_sync = search (parts_sync, expression_sync) depth 40

body_sync : IsSync body.the_row
body_sync = search (parts_sync, expression_sync, stmt.crosses) depth 40

procedure_sync : IsSync (proc.the_field).row
procedure_sync = search (parts_sync, specification_sync, body_sync) depth 40

declaration_sync : IsSync decl.the_row
declaration_sync = search (parts_sync, expression_sync, procedure_sync) depth 40

pub program_sync : IsSync program.the_row
program_sync = search (sendable, std.crosses, declaration_sync) depth 40

-- Statements of the code as contracts see them.
use Rattle.std.proofs.Common.{◌≡◌, Option, map, Vec, Global, ap, sym, ◌∙◌}
use Rattle.boogie_tree.specs.declared.span.Span.{Span}
use Rattle.boogie_tree.specs.declared.tree.Expr.{Expr}
use Rattle.boogie_tree.specs.declared.tree.Name.{Name}
use Rattle.boogie_tree.specs.declared.tree.Stmt.{Stmt-F, fold-roll-Stmt}
use Rattle.boogie_tree.specs.declared.tree.Stmt.TheVariants as stmts
use Rattle.boogie_tree.specs.Tree as tree
use Rattle.boogie_tree.specs.View.{expression, statement, statement_step}

pub seen_return : (here : Span) → statement (stmts.Return here) ≡ tree.Return here
seen_return here = ap statement (sym (stmts.rolls-Return here)) ∙ fold-roll-Stmt tree.Statement statement_step (Stmt-F.Return here)

pub seen_break : (here : Span) (label : Option Name) → statement (stmts.Break here label) ≡ tree.Break here label
seen_break here label = ap statement (sym (stmts.rolls-Break here label)) ∙ fold-roll-Stmt tree.Statement statement_step (Stmt-F.Break here label)

pub seen_call : (here : Span) (targets : Vec Name Global) (procedure : Name) (arguments : Vec Expr Global)
    → statement (stmts.Call here targets procedure arguments) ≡ tree.Call here targets.items procedure (map expression arguments.items)
seen_call here targets procedure arguments =
    ap statement (sym (stmts.rolls-Call here targets procedure arguments)) ∙ fold-roll-Stmt tree.Statement statement_step (Stmt-F.Call here targets procedure arguments)

pub seen_assign : (here : Span) (targets : Vec Name Global) (values : Vec Expr Global)
    → statement (stmts.Assign here targets values) ≡ tree.Assign here targets.items (map expression values.items)
seen_assign here targets values = ap statement (sym (stmts.rolls-Assign here targets values)) ∙ fold-roll-Stmt tree.Statement statement_step (Stmt-F.Assign here targets values)

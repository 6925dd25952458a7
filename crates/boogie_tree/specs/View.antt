-- The trees of the code as contracts see them.
use Rattle.std.specs.Prelude.{List, [], ◌∷◌, Option, None, Some, map}
use Rattle.boogie_tree.specs.declared.span.Span.{Span}
use Rattle.boogie_tree.specs.declared.tree.Expr.{Expr}
use Rattle.boogie_tree.specs.declared.tree.ExprKind.{ExprKind}
use Rattle.boogie_tree.specs.declared.tree.ExprKind.TheVariants as kinds
use Rattle.boogie_tree.specs.declared.tree.Guard.{Guard}
use Rattle.boogie_tree.specs.declared.tree.Guard.TheVariants as guards
use Rattle.boogie_tree.specs.declared.tree.Inv.{Inv}
use Rattle.boogie_tree.specs.declared.tree.Stmt.{Stmt, Stmt-F, fold-Stmt}
use Rattle.boogie_tree.specs.declared.tree.Spec.{Spec}
use Rattle.boogie_tree.specs.declared.tree.Spec.TheVariants as specs
use Rattle.boogie_tree.specs.declared.tree.Body.{Body}
use Rattle.boogie_tree.specs.declared.tree.Proc.{Proc}
use Rattle.boogie_tree.specs.declared.tree.Decl.{Decl}
use Rattle.boogie_tree.specs.declared.tree.Decl.TheVariants as decls
use Rattle.boogie_tree.specs.declared.tree.Program.{Program}
use Rattle.boogie_tree.specs.Tree as tree

abbrev pub kind_view : Span → ExprKind → tree.Expression
kind_view s (kinds.Lit n) = tree.Lit s n
kind_view s (kinds.Truth b) = tree.Truth s b
kind_view s (kinds.Var x) = tree.Var s x
kind_view s (kinds.Old' p s1 k) = tree.Old s (kind_view s1 k)
kind_view s (kinds.Not' p s1 k) = tree.Not s (kind_view s1 k)
kind_view s (kinds.Neg' p s1 k) = tree.Neg s (kind_view s1 k)
kind_view s (kinds.Bin' op p s1 a q s2 b) = tree.Bin s op (kind_view s1 a) (kind_view s2 b)

abbrev pub expression : Expr → tree.Expression
expression e = kind_view e.span e.kind

abbrev pub guard : Guard → tree.Guard
guard guards.Any = tree.Any
guard (guards.Cond e) = tree.Cond (expression e)

abbrev pub invariant : Inv → tree.Invariant
invariant i = record { span = i.span; free = i.free; cond = expression i.cond }

abbrev pub block : List tree.Statement → tree.Block
block [] = tree.Empty
block (s ∷ ss) = tree.Then s (block ss)

-- one statement whose inner statements are seen already
abbrev pub statement_step : Stmt-F tree.Statement → tree.Statement
statement_step (Stmt-F.Assert s e) = tree.Assert s (expression e)
statement_step (Stmt-F.Assume s e) = tree.Assume s (expression e)
statement_step (Stmt-F.Havoc s xs) = tree.Havoc s xs.items
statement_step (Stmt-F.Assign s xs es) = tree.Assign s xs.items (map expression es.items)
statement_step (Stmt-F.Call s xs f es) = tree.Call s xs.items f (map expression es.items)
statement_step (Stmt-F.If s g a b) = tree.If s (guard g) (block a.items) (block b.items)
statement_step (Stmt-F.While s g is b) = tree.While s (guard g) (map invariant is.items) (block b.items)
statement_step (Stmt-F.Break s x) = tree.Break s x
statement_step (Stmt-F.Goto s xs) = tree.Goto s xs.items
statement_step (Stmt-F.Return s) = tree.Return s
statement_step (Stmt-F.Label x) = tree.Label x

abbrev pub statement : Stmt → tree.Statement
statement = fold-Stmt tree.Statement statement_step

abbrev pub statements : List Stmt → tree.Block
statements ss = block (map statement ss)

abbrev pub specification : Spec → tree.Specification
specification (specs.Requires i) = tree.Requires (invariant i)
specification (specs.Ensures i) = tree.Ensures (invariant i)
specification (specs.Modifies xs) = tree.Modifies xs.items

abbrev pub body : Body → tree.ProcedureBody
body b = record { locals = b.locals.items; stmts = statements b.stmts.items }

abbrev pub body_of : Option Body → Option tree.ProcedureBody
body_of None = None
body_of (Some b) = Some (body b)

abbrev pub procedure : Proc → tree.Procedure
procedure p =
    record {
      span = p.span;
      name = p.name;
      params = p.params.items;
      results = p.results.items;
      specs = map specification p.specs.items;
      body = body_of p.body;
    }

abbrev pub declaration : Decl → tree.Declaration
declaration (decls.Const x) = tree.Const x
declaration (decls.Global x) = tree.Global x
declaration (decls.Axiom s e) = tree.Axiom s (expression e)
declaration (decls.Procedure p) = tree.Declares (procedure p)
declaration (decls.Implementation p) = tree.Implements (procedure p)

-- the declarations of a program, in order
abbrev pub program : Program → List tree.Declaration
program p = map declaration p.decls.items

-- Statements of the code, as contracts see them.
use Rattle.std.proofs.Common.{◌≡◌, ℕ, refl, rules, map, Vec, Global, Option}
use Rattle.boogie_tree.specs.declared.span.Span.{Span}
use Rattle.boogie_tree.specs.declared.tree.Expr.{Expr}
use Rattle.boogie_tree.specs.declared.tree.ExprKind.{ExprKind}
use Rattle.boogie_tree.specs.declared.tree.ExprKind.TheVariants as kinds
use Rattle.boogie_tree.specs.declared.tree.Name.{Name}
use Rattle.boogie_tree.specs.declared.tree.Guard.{Guard}
use Rattle.boogie_tree.specs.declared.tree.Inv.{Inv}
use Rattle.boogie_tree.specs.declared.tree.Stmt.{Stmt, the_lemmas}
use Rattle.boogie_tree.specs.declared.tree.Stmt.TheVariants as code
use Rattle.boogie_tree.specs.Tree as tree
use Rattle.boogie_tree.specs.View as view
use Rattle.boogie_types.specs.Naming.{expression_span}
use Rattle.boogie_tree.specs.declared.tree.Column.{Column}
use Rattle.typed_tree.specs.declared.types.TExpr.{TExpr}
use Rattle.typed_tree.specs.declared.types.TStmt.{the_lemmas as typed_lemmas}
use Rattle.typed_tree.specs.declared.types.TStmt.TheVariants as typed_code
use Rattle.typed_tree.specs.TypedTree as typed_tree
use Rattle.typed_tree.specs.TypedView as typed

pub assert_seen : (s : Span) (e : Expr) → view.statement (code.Assert s e) ≡ tree.Assert s (view.expression e)
assert_seen s e = search (rules, the_lemmas)

pub assume_seen : (s : Span) (e : Expr) → view.statement (code.Assume s e) ≡ tree.Assume s (view.expression e)
assume_seen s e = search (rules, the_lemmas)

pub havoc_seen : (s : Span) (xs : Vec Name Global) → view.statement (code.Havoc s xs) ≡ tree.Havoc s xs.items
havoc_seen s xs = search (rules, the_lemmas)

pub assign_seen : (s : Span) (xs : Vec Name Global) (es : Vec Expr Global) → view.statement (code.Assign s xs es) ≡ tree.Assign s xs.items (map view.expression es.items)
assign_seen s xs es = search (rules, the_lemmas)

pub call_seen : (s : Span) (xs : Vec Name Global) (f : Name) (es : Vec Expr Global) → view.statement (code.Call s xs f es) ≡ tree.Call s xs.items f (map view.expression es.items)
call_seen s xs f es = search (rules, the_lemmas)

pub if_seen : (s : Span) (g : Guard) (a b : Vec Stmt Global) → view.statement (code.If s g a b) ≡ tree.If s (view.guard g) (view.statements a.items) (view.statements b.items)
if_seen s g a b = search (rules, the_lemmas)

pub while_seen : (s : Span) (g : Guard) (is : Vec Inv Global) (b : Vec Stmt Global) → view.statement (code.While s g is b) ≡ tree.While s (view.guard g) (map view.invariant is.items) (view.statements b.items)
while_seen s g is b = search (rules, the_lemmas)

pub break_seen : (s : Span) (x : Option Name) → view.statement (code.Break s x) ≡ tree.Break s x
break_seen s x = search (rules, the_lemmas)

pub goto_seen : (s : Span) (xs : Vec Name Global) → view.statement (code.Goto s xs) ≡ tree.Goto s xs.items
goto_seen s xs = search (rules, the_lemmas)

pub label_seen : (x : Name) → view.statement (code.Label x) ≡ tree.Label x
label_seen x = search (rules, the_lemmas)

-- and one of the typed ones
pub goto_typed : (s : Span) (ns : Vec ℕ Global) → typed.statement (typed_code.Goto s ns) ≡ typed_tree.Goto s ns.items
goto_typed s ns = search (rules, typed_lemmas)

pub call_typed : (s : Span) (cs : Vec Column Global) (n : ℕ) (es : Vec TExpr Global) → typed.statement (typed_code.Call s cs n es) ≡ typed_tree.Call s cs.items n (map typed.expression es.items)
call_typed s cs n es = search (rules, typed_lemmas)

-- an expression stands where its tree says
pub place_seen : (s : Span) (k : ExprKind) → expression_span (view.kind_view s k) ≡ s
place_seen s (kinds.Lit n) = refl
place_seen s (kinds.Truth b) = refl
place_seen s (kinds.Var x) = refl
place_seen s (kinds.Old' p s1 k) = refl
place_seen s (kinds.Not' p s1 k) = refl
place_seen s (kinds.Neg' p s1 k) = refl
place_seen s (kinds.Bin' op p s1 a q s2 b) = refl

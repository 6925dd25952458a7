-- Statements of the code as the tree has them.
use Rattle.std.proofs.Common.{◌≡◌, ℕ, map, rules}
use Rattle.std.specs.declared.alloc.Global.{Global}
use Rattle.std.specs.declared.vec.Vec.{Vec}
use Rattle.boogie_tree.specs.declared.span.Span.{Span}
use Rattle.boogie_tree.specs.declared.tree.Column.{Column}
use Rattle.typed_tree.specs.declared.types.TExpr.{TExpr}
use Rattle.typed_tree.specs.declared.types.TGuard.{TGuard}
use Rattle.typed_tree.specs.declared.types.TInv.{TInv}
use Rattle.typed_tree.specs.declared.types.TStmt.{TStmt, the_lemmas}
use Rattle.typed_tree.specs.declared.types.TStmt.TheVariants as code
use Rattle.typed_tree.specs.TypedTree.{Assert, Assume, Havoc, Assign, Call, If, While, Goto}
use Rattle.typed_tree.specs.TypedView as view

pub assert_seen : (s : Span) (e : TExpr) → view.statement (code.Assert s e) ≡ Assert s (view.expression e)
assert_seen s e = search (rules, the_lemmas)

pub assume_seen : (s : Span) (e : TExpr) → view.statement (code.Assume s e) ≡ Assume s (view.expression e)
assume_seen s e = search (rules, the_lemmas)

pub havoc_seen : (s : Span) (cs : Vec Column Global) → view.statement (code.Havoc s cs) ≡ Havoc s cs.items
havoc_seen s cs = search (rules, the_lemmas)

pub assign_seen : (s : Span) (cs : Vec Column Global) (es : Vec TExpr Global) → view.statement (code.Assign s cs es) ≡ Assign s cs.items (map view.expression es.items)
assign_seen s cs es = search (rules, the_lemmas)

pub call_seen : (s : Span) (cs : Vec Column Global) (f : ℕ) (es : Vec TExpr Global) → view.statement (code.Call s cs f es) ≡ Call s cs.items f (map view.expression es.items)
call_seen s cs f es = search (rules, the_lemmas)

pub if_seen : (s : Span) (g : TGuard) (a b : Vec TStmt Global) → view.statement (code.If s g a b) ≡ If s (view.guard g) (view.statements a.items) (view.statements b.items)
if_seen s g a b = search (rules, the_lemmas)

pub while_seen : (s : Span) (g : TGuard) (is : Vec TInv Global) (b : Vec TStmt Global) → view.statement (code.While s g is b) ≡ While s (view.guard g) (map view.invariant is.items) (view.statements b.items)
while_seen s g is b = search (rules, the_lemmas)

pub goto_seen : (s : Span) (ks : Vec ℕ Global) → view.statement (code.Goto s ks) ≡ Goto s ks.items
goto_seen s ks = search (rules, the_lemmas)

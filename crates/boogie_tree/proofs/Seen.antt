-- Statements that hold statements, as contracts see them.
use Rattle.std.proofs.Common.{◌≡◌, rules, map, Vec, Global}
use Rattle.boogie_tree.specs.declared.span.Span.{Span}
use Rattle.boogie_tree.specs.declared.tree.Guard.{Guard}
use Rattle.boogie_tree.specs.declared.tree.Inv.{Inv}
use Rattle.boogie_tree.specs.declared.tree.Stmt.{Stmt, the_lemmas}
use Rattle.boogie_tree.specs.declared.tree.Stmt.TheVariants as code
use Rattle.boogie_tree.specs.Tree as tree
use Rattle.boogie_tree.specs.View as view

pub if_seen : (s : Span) (g : Guard) (a b : Vec Stmt Global) → view.statement (code.If s g a b) ≡ tree.If s (view.guard g) (view.statements a.items) (view.statements b.items)
if_seen s g a b = search (rules, the_lemmas)

pub while_seen : (s : Span) (g : Guard) (is : Vec Inv Global) (b : Vec Stmt Global) → view.statement (code.While s g is b) ≡ tree.While s (view.guard g) (map view.invariant is.items) (view.statements b.items)
while_seen s g is b = search (rules, the_lemmas)

-- Expressions of the code with locals in the places of their products, as contracts see them.
use Rattle.std.specs.Prelude.{◌≡◌, ℕ, ◌+◌, Bool, List, length, map}
use Rattle.boogie_tree.specs.declared.tree.Column.{Column}
use Rattle.typed_tree.specs.TypedTree.{TypedExpression}
use Rattle.typed_tree.specs.TypedView.{expression}
use Rattle.cond_jumps.specs.declared.free_products.freeing.FreedExpr.{FreedExpr}
use Rattle.cond_jumps.specs.declared.free_products.freeing.FreedExprs.{FreedExprs}
use Rattle.cond_jumps.specs.FreeProducts.FreeProducts.{free_products, freed, all_free_products, all_freed}

-- the expression with the locals from number n on in the places of its products, and the number of the next local
pub record IsFreed (fixed : Column → Bool) (n : ℕ) (old : Bool) (e : TypedExpression) (f : FreedExpr) : Type 0 where
  pub expr : expression f.expr ≡ freed fixed n old e
  pub next : f.next ≡ n + length (free_products fixed old e)

-- the same of all of a list of expressions that are read now
pub record AreFreed (fixed : Column → Bool) (n : ℕ) (es : List TypedExpression) (f : FreedExprs) : Type 0 where
  pub exprs : map expression f.exprs.items ≡ all_freed fixed n es
  pub next : f.next ≡ n + length (all_free_products fixed es)

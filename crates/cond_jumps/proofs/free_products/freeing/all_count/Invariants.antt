use Rattle.std.proofs.Common.{◌≡◌, ◌+◌, true, false, length, map, drop}
use Rattle.std.specs.List.{AllByRecursion}
use Rattle.typed_tree.specs.TypedView.{expression}
use Rattle.typed_tree.specs.AffineForm.{forms_fit}
use Rattle.typed_tree.specs.Scope.{is_constant_column}
use Rattle.cond_jumps.specs.FreeProducts.FreeProducts.{all_free_products}
use Rattle.cond_jumps.proofs.free_products.freeing.all_count.Given as goal

abbrev pub invariant-loop-expr : goal.invariant-loop-expr
invariant-loop-expr l =
    AllByRecursion (λ e. forms_fit (is_constant_column l.globals) false e ≡ true) (map expression (drop l.expr-index l.exprs))
    × (l.count + length (all_free_products (is_constant_column l.globals) (map expression (drop l.expr-index l.exprs))) ≡ length (all_free_products (is_constant_column l.globals) (map expression l.exprs)))

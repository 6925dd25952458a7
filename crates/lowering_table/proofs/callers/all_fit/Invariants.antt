use Rattle.std.proofs.Common.{◌≡◌, true, false, drop, map}
use Rattle.std.specs.List.{AllByRecursion}
use Rattle.typed_tree.specs.TypedView.{expression}
use Rattle.typed_tree.specs.AffineForm.{forms_fit}
use Rattle.typed_tree.specs.Scope.{is_constant_column}
use Rattle.lowering_table.proofs.callers.all_fit.Given as goal

abbrev pub invariant-loop-expr : goal.invariant-loop-expr
invariant-loop-expr l =
    AllByRecursion (λ e. forms_fit (is_constant_column l.globals) false e ≡ true) (map expression (drop l.expr-index l.exprs)) →
    AllByRecursion (λ e. forms_fit (is_constant_column l.globals) false e ≡ true) (map expression l.exprs)

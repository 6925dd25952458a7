use Rattle.std.proofs.Common.{◌≡◌, true, false, drop, map}
use Rattle.std.specs.List.{AllByRecursion}
use Rattle.typed_tree.specs.TypedView.{specification}
use Rattle.typed_tree.specs.AffineForm.{forms_fit}
use Rattle.typed_tree.specs.Scope.{is_constant_column}
use Rattle.icfg_lower.specs.CallJumps.CallLists.{ensured}
use Rattle.lowering_table.proofs.callers.ensures_fit.Given as goal

abbrev pub invariant-loop-spec : goal.invariant-loop-spec
invariant-loop-spec l =
    AllByRecursion (λ e. forms_fit (is_constant_column l.globals) false e ≡ true) (ensured (map specification (drop l.spec-index l.specs))) →
    AllByRecursion (λ e. forms_fit (is_constant_column l.globals) false e ≡ true) (ensured (map specification l.specs))

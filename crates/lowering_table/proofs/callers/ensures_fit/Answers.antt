use Rattle.std.proofs.Common.{◌≡◌, true, false, refl}
use Rattle.typed_tree.specs.AffineForm.{forms_fit}
use Rattle.typed_tree.specs.Scope.{is_constant_column}
use Rattle.lowering_table.proofs.CallerLemmas.{one_before}
use Rattle.lowering_table.proofs.callers.ensures_fit.Goals as goal

pub loop-spec-preserved : goal.loop-spec-preserved
loop-spec-preserved c k =
    c.loop-spec.invariant
    (one_before (λ e. forms_fit (is_constant_column c.args.globals.now) false e ≡ true) c.args.specs.now c.loop-spec.spec-index c.spec-item.result c.loop-spec-test.true c.spec-item.is (c.if-not-ensured_fits.ensures refl) k)

use Rattle.std.proofs.Common.{◌≡◌, false, true, map}
use Rattle.typed_tree.specs.TypedView.{expression}
use Rattle.typed_tree.specs.AffineForm.{forms_fit}
use Rattle.typed_tree.specs.Scope.{is_constant_column}
use Rattle.cond_jumps.specs.FreeProducts.FrameLetters.{told_condition}
use Rattle.icfg_lower.proofs.CallJumps.EnsuredLemmas.{at_ensured, ensures_step}
use Rattle.icfg_lower.proofs.call_jumps.ensured.ensures_told.Goals as goal

pub add_told-requires : goal.add_told-requires
add_told-requires c =
    at_ensured (λ e. forms_fit (is_constant_column c.args.globals.now) false e ≡ true) c.args.specs.now c.loop-spec.spec-index c.spec-item.result c.loop-spec-test.true c.spec-item.is c.requires

pub loop-spec-preserved : goal.loop-spec-preserved
loop-spec-preserved c =
    ensures_step (told_condition (is_constant_column c.args.globals.now) (map expression c.args.args.now)) c.args.specs.now c.loop-spec.spec-index c.spec-item.result
    (map expression c.loop-spec.told.items) (map expression c.add_told.new.told.items) c.loop-spec-test.true c.spec-item.is c.loop-spec.invariant c.in_ok-add_told.ensures

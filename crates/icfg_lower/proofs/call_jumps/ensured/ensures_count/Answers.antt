use Rattle.std.proofs.Common.{◌≡◌, false, true}
use Rattle.typed_tree.specs.AffineForm.{forms_fit}
use Rattle.typed_tree.specs.Scope.{is_constant_column}
use Rattle.icfg_lower.proofs.CallJumps.EnsuredLemmas.{at_ensured, count_step}
use Rattle.icfg_lower.proofs.call_jumps.ensured.ensures_count.Goals as goal

pub ensured_count-requires : goal.ensured_count-requires
ensured_count-requires c =
    at_ensured (λ e. forms_fit (is_constant_column c.args.globals.now) false e ≡ true) c.args.specs.now c.loop-spec.spec-index c.spec-item.result c.loop-spec-test.true c.spec-item.is c.requires

pub loop-spec-preserved : goal.loop-spec-preserved
loop-spec-preserved c =
    count_step (is_constant_column c.args.globals.now) c.args.specs.now c.loop-spec.spec-index c.spec-item.result c.loop-spec.count c.in_ok-more.more c.in_ok-count.count
    c.loop-spec-test.true c.spec-item.is c.loop-spec.invariant c.in_ok-more.ensures c.in_ok-count.ensures

use Rattle.std.proofs.Common.{to_z, FitsSigned, rules}
use Rattle.std.specs.Prelude.{unsigned_abs}
use Rattle.std.specs.Int.{w128}
use Rattle.std.proofs.lemmas.Int.{to_z-of_z}
use Rattle.rank_lasso.specs.RankingSystem.Scaled.{least_denominator}
use Rattle.rank_lasso.proofs.RankingSystem.PointLaws.{abs_positive, multiple_stops, multiple_goes}
use Rattle.rank_lasso.proofs.ranking_system.scaling.least_denominator.Goals as goal

pub returns-in_err-least : goal.returns-in_err-least
returns-in_err-least c =
    let f : FitsSigned w128 c.den.result = search rules in
    rw c.from_residual.ensures
    (multiple_stops (unsigned_abs (to_z w128 c.loop-value.least-bits)) c.args.values.now c.loop-value.value-index c.value-item.result c.den.result (least_denominator c.args.values.now)
    (abs_positive (to_z w128 c.loop-value.least-bits) c.loop-value.invariant.positive) c.loop-value-test.true c.requires c.value-item.is c.den.ensures.valid c.den.ensures.value
    c.loop-value.invariant.so_far (simp to_z-of_z at c.in_err-least.ensures))

pub loop-value-preserved : goal.loop-value-preserved
loop-value-preserved c =
    let f : FitsSigned w128 c.den.result = search rules in
    let g : FitsSigned w128 c.in_ok-least.least = search rules in
    let k = multiple_goes (to_z w128 c.loop-value.least-bits) c.args.values.now c.loop-value.value-index c.value-item.result c.den.result c.in_ok-least.least
    (least_denominator c.args.values.now) c.loop-value.invariant.positive c.loop-value-test.true c.value-item.is c.den.ensures.valid c.den.ensures.value
    c.loop-value.invariant.so_far (simp to_z-of_z at c.in_ok-least.ensures) in
    record { positive = simp to_z-of_z k.positive; fits = simp to_z-of_z k.fits; so_far = simp to_z-of_z k.so_far }

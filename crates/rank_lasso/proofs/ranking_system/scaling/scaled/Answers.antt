use Rattle.std.proofs.Common.{FitsSigned, rules}
use Rattle.std.specs.Int.{w128}
use Rattle.std.proofs.lemmas.Int.{to_z-of_z}
use Rattle.rank_lasso.proofs.RankingSystem.PointLaws.{least_positive, scaled_goes, scaled_stops}
use Rattle.rank_lasso.proofs.ranking_system.scaling.scaled.Goals as goal

pub numerator_over-requires : goal.numerator_over-requires
numerator_over-requires c =
    let f : FitsSigned w128 c.in-Some.denominator = search rules in
    simp to_z-of_z (least_positive c.args.values.now c.in-Some.denominator c.know_values.ensures c.in-Some.ensures.1)

pub returns-in-None-clause-past : goal.returns-in-None-clause-past
returns-in-None-clause-past c = λ e h.
    (let f : FitsSigned w128 c.in-Some.denominator = search rules in
    scaled_stops c.args.values.now c.loop-value.value-index c.value-item.result c.in-Some.denominator c.loop-value-test.true c.value-item.is c.in-Some.ensures.1
    (simp to_z-of_z at c.in-None.ensures) h)

pub loop-value-preserved : goal.loop-value-preserved
loop-value-preserved c =
    let f : FitsSigned w128 c.in-Some.denominator = search rules in
    let g : FitsSigned w128 c.in-Some-numerator_over.numerator = search rules in
    let k = scaled_goes c.args.values.now c.loop-value.value-index c.value-item.result c.in-Some.denominator c.in-Some-numerator_over.numerator c.loop-value.numerators.items
    c.push.new.self.items c.loop-value-test.true c.value-item.is c.in-Some.ensures.1 (record { are = c.loop-value.invariant.are; fit = c.loop-value.invariant.fit })
    (simp to_z-of_z at c.in-Some-numerator_over.ensures) (simp to_z-of_z at c.in_ok-push-in-Some-numerator_over.ensures.items) in
    record { are = k.are; fit = k.fit }

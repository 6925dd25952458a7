use Rattle.std.proofs.Common.{rules, FitsSigned}
use Rattle.std.specs.Int.{w128}
use Rattle.std.proofs.lemmas.Int.{to_z-of_z}
use Rattle.frac.proofs.WholeLaws.{floor_not_above}
use Rattle.frac.proofs.whole.floor.Goals as goal

pub returns-clause-not_above : goal.returns-clause-not_above
returns-clause-not_above c =
    let n : FitsSigned w128 c.parts-numerator.result.0 = search rules in
    let d : FitsSigned w128 c.parts-numerator.result.1 = search rules in
    let r : FitsSigned w128 c.div_euclid.result = search rules in
    let e = rw (c.parts-numerator.ensures.numerator, c.parts-numerator.ensures.denominator) at (simp to_z-of_z at c.div_euclid.ensures) in
    simp to_z-of_z (rw e (floor_not_above c.args.a.now.num c.args.a.now.den c.parts-numerator.ensures.valid.lowest.positive))

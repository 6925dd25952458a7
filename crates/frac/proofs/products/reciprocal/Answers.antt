use Rattle.std.proofs.Common.{rules, ◌≡◌, pos, ◌-ℤ◌, ◌<ℤ◌, FitsSigned, arith}
use Rattle.std.specs.Int.{w128}
use Rattle.std.proofs.lemmas.Int.{to_z-of_z, ints}
use Rattle.frac.specs.Fractions.{IsFraction}
use Rattle.frac.proofs.SignLaws.{FitsSigned-minus, reciprocal_is_fraction, negative_reciprocal}
use Rattle.frac.proofs.products.reciprocal.Goals as goal

pub new-requires : goal.new-requires
new-requires c =
    let n : FitsSigned w128 c.parts-numerator.result.0 = search rules in
    let d : FitsSigned w128 c.parts-numerator.result.1 = search rules in
    let v : IsFraction c.args.a.now = c.parts-numerator.ensures.valid in
    let en : c.parts-numerator.result.0 ≡ c.args.a.now.num = c.parts-numerator.ensures.numerator in
    let ed : c.parts-numerator.result.1 ≡ c.args.a.now.den = c.parts-numerator.ensures.denominator in
    let l : c.args.a.now.num <ℤ pos 0 = grind (arith, ints, simp to_z-of_z at c.if-numerator-lt0.true) in
    let mn : FitsSigned w128 (pos 0 -ℤ c.parts-numerator.result.0) = FitsSigned-minus c.parts-numerator.result.0 (rw en v.num_fits) in
    let md : FitsSigned w128 (pos 0 -ℤ c.parts-numerator.result.1) = FitsSigned-minus c.parts-numerator.result.1 (rw ed v.den_fits) in
    simp to_z-of_z (rw (ed, en) (negative_reciprocal c.args.a.now v l))

pub new-requires-else-numerator-lt0 : goal.new-requires-else-numerator-lt0
new-requires-else-numerator-lt0 c =
    let n : FitsSigned w128 c.parts-numerator.result.0 = search rules in
    let d : FitsSigned w128 c.parts-numerator.result.1 = search rules in
    let v : IsFraction c.args.a.now = c.parts-numerator.ensures.valid in
    let en : c.parts-numerator.result.0 ≡ c.args.a.now.num = c.parts-numerator.ensures.numerator in
    let ed : c.parts-numerator.result.1 ≡ c.args.a.now.den = c.parts-numerator.ensures.denominator in
    let l : pos 0 <ℤ c.args.a.now.num = grind (arith, ints, simp to_z-of_z at c.if-numerator-lt0.false) in
    simp to_z-of_z (rw (ed, en) (reciprocal_is_fraction c.args.a.now v l))

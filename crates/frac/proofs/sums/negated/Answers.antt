use Rattle.std.proofs.Common.{rules, ◌≡◌, pos, ◌-ℤ◌, FitsSigned}
use Rattle.std.specs.Int.{w128}
use Rattle.std.proofs.lemmas.Int.{to_z-of_z}
use Rattle.frac.specs.Fractions.{IsFraction}
use Rattle.frac.proofs.SignLaws.{zero_minus, FitsSigned-minus, opposite_is_fraction}
use Rattle.frac.proofs.sums.negated.Goals as goal

pub new-requires : goal.new-requires
new-requires c =
    let n : FitsSigned w128 c.parts-numerator.result.0 = search rules in
    let d : FitsSigned w128 c.parts-numerator.result.1 = search rules in
    let v : IsFraction c.args.a.now = c.parts-numerator.ensures.valid in
    let en : c.parts-numerator.result.0 ≡ c.args.a.now.num = c.parts-numerator.ensures.numerator in
    let ed : c.parts-numerator.result.1 ≡ c.args.a.now.den = c.parts-numerator.ensures.denominator in
    let mn : FitsSigned w128 (pos 0 -ℤ c.parts-numerator.result.0) = FitsSigned-minus c.parts-numerator.result.0 (rw en v.num_fits) in
    simp to_z-of_z (rw (en, ed, zero_minus c.args.a.now.num) (opposite_is_fraction c.args.a.now v))

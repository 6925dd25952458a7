use Rattle.std.proofs.Common.{FitsSigned, rules, ◌≡◌, ◌*ℤ◌}
use Rattle.std.specs.Int.{w128}
use Rattle.std.proofs.lemmas.Int.{to_z-of_z}
use Rattle.int_decide.proofs.Numerators.{over_is}
use Rattle.int_decide.proofs.meeting.multiplied_numerator.Goals as goal

pub returns-then-multiple-denominator : goal.returns-then-multiple-denominator
returns-then-multiple-denominator c =
    let e : c.in_ok-times.times *ℤ c.args.value.now.den ≡ c.args.denominator = search rules in
    let g : c.in_ok-numerator.numerator ≡ c.args.value.now.num *ℤ c.in_ok-times.times = search rules in
    let f : FitsSigned w128 c.in_ok-numerator.numerator = search rules in
    simp to_z-of_z (over_is c.args.denominator c.in_ok-times.times c.args.value.now c.in_ok-numerator.numerator c.den.ensures.valid.lowest e g)

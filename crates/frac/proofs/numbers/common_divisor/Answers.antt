use Rattle.std.proofs.Common.{ℕ, ◌^◌, ◌<◌, ◌≤◌, FitsSigned, arith}
use Rattle.std.specs.Prelude.{unsigned_abs}
use Rattle.std.specs.Int.{w128, IsGcd}
use Rattle.std.proofs.lemmas.Int.{to_z-of_z, to_z_pos, ints}
use Rattle.frac.proofs.Reducing.{positive_nonzero, positive_below, positive_gcd, gcd_at_most}
use Rattle.frac.proofs.numbers.common_divisor.Goals as goal

divisor_of : (c : goal.After-greatest_divisor) → IsGcd (unsigned_abs c.args.a) (unsigned_abs c.args.b) c.greatest_divisor.result
divisor_of c =
    let f : FitsSigned w128 c.args.a = c.ranges.a in
    let g : FitsSigned w128 c.args.b = c.ranges.b in
    rw (simp to_z-of_z at c.unsigned_abs.ensures.value, simp to_z-of_z at c.unsigned_abs-2.ensures.value) at c.greatest_divisor.ensures

below_of : (c : goal.After-greatest_divisor) → c.greatest_divisor.result < 2 ^ 127
below_of c =
    let b : ℕ = unsigned_abs c.args.b in
    let l : b < 2 ^ 127 = positive_below c.args.b c.requires c.ranges.b in
    let m : c.greatest_divisor.result ≤ b = gcd_at_most (unsigned_abs c.args.a) b c.greatest_divisor.result (positive_nonzero c.args.b c.requires) (divisor_of c) in
    omega arith

pub overflow_cast-result : goal.overflow_cast-result
overflow_cast-result c = record { sfits = below_of c }

pub returns-clause-divisor : goal.returns-clause-divisor
returns-clause-divisor c = rw (to_z_pos w128 c.greatest_divisor.result (below_of c)) (divisor_of c)

pub returns-clause-positive : goal.returns-clause-positive
returns-clause-positive c =
    let l : 0 < c.greatest_divisor.result =
    positive_gcd (unsigned_abs c.args.a) (unsigned_abs c.args.b) c.greatest_divisor.result (positive_nonzero c.args.b c.requires) (divisor_of c) in
    rw (to_z_pos w128 c.greatest_divisor.result (below_of c)) (omega (arith, ints))

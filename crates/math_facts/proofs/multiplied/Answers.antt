use Rattle.std.proofs.Common.{◌^◌, ◌≤◌, ℤ, pos, negsuc, ◌*ℤ◌, FitsSigned, refl, arith}
use Rattle.std.specs.Prelude.{unsigned_abs}
use Rattle.std.specs.Int.{w64, w128}
use Rattle.std.proofs.lemmas.Int.{to_z-of_z, fits_signed_mul}
use Rattle.math_facts.proofs.multiplied.Goals as goal
use Rattle.math_facts.proofs.multiplied.Goals.{Then-is_small-2}

-- a small number fits 64 bits
small_fits : (z : ℤ) → unsigned_abs z ≤ 2 ^ 62 → FitsSigned w64 z
small_fits (pos n) l = record { sfits = omega arith }
small_fits (negsuc n) l = record { sfits = omega arith }

first_small : (c : Then-is_small-2) → unsigned_abs c.args.a ≤ 2 ^ 62
first_small c = let f : FitsSigned w128 c.args.a = c.ranges.a in simp to_z-of_z at c.if-is_small.ensures refl

second_small : (c : Then-is_small-2) → unsigned_abs c.args.b ≤ 2 ^ 62
second_small c = let g : FitsSigned w128 c.args.b = c.ranges.b in simp to_z-of_z at c.if-is_small-2.ensures refl

fits : (c : Then-is_small-2) → FitsSigned w128 (c.args.a *ℤ c.args.b)
fits c =
    let first = first_small c in
    let second = second_small c in
    fits_signed_mul w128 c.args.a c.args.b (2 ^ 62) (2 ^ 62) first second (omega arith)

pub overflow_mul-result : goal.overflow_mul-result
overflow_mul-result c =
    let p = (goal.at.overflow_mul-result c).Then-is_small-2 in
    let f : FitsSigned w128 c.args.a = c.ranges.a in
    let g : FitsSigned w128 c.args.b = c.ranges.b in
    let h : FitsSigned w64 c.args.a = small_fits c.args.a (first_small p) in
    let i : FitsSigned w64 c.args.b = small_fits c.args.b (second_small p) in
    simp to_z-of_z (fits p)

pub returns-then-is_small-2 : goal.returns-then-is_small-2
returns-then-is_small-2 c =
    let p = (goal.at.returns-then-is_small-2 c).Then-is_small-2 in
    let f : FitsSigned w128 c.args.a = c.ranges.a in
    let g : FitsSigned w128 c.args.b = c.ranges.b in
    let h : FitsSigned w64 c.args.a = small_fits c.args.a (first_small p) in
    let i : FitsSigned w64 c.args.b = small_fits c.args.b (second_small p) in
    let k : FitsSigned w128 (c.args.a *ℤ c.args.b) = fits p in
    (k, simp to_z-of_z refl)

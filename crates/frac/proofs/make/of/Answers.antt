use Rattle.std.proofs.Common.{FitsSigned, refl, arith}
use Rattle.std.specs.Int.{w128}
use Rattle.std.proofs.lemmas.Int.{to_z-of_z, ints}
use Rattle.frac.proofs.Reducing.{reduced_by_one}
use Rattle.frac.proofs.make.of.Goals as goal

pub new-requires : goal.new-requires
new-requires c =
    let f : FitsSigned w128 c.args.n = c.ranges.n in
    simp to_z-of_z (record {
      lowest = record { positive = omega (arith, ints); coprime = (reduced_by_one c.args.n).divisor };
      num_fits = simp to_z-of_z at c.if-fits.ensures refl;
      den_fits = omega arith;
    })

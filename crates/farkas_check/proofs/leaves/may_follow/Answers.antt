use Rattle.std.proofs.Common.{FitsSigned}
use Rattle.std.specs.Int.{w128}
use Rattle.std.proofs.lemmas.Int.{to_z-of_z}
use Rattle.farkas_check.proofs.LeafSteps.{MayFollow-read, MayFollow-multiplies}
use Rattle.farkas_check.proofs.leaves.may_follow.Goals as goal

pub returns-then-place-rows : goal.returns-then-place-rows
returns-then-place-rows c =
    let f : FitsSigned w128 c.args.multiplier = c.ranges.multiplier in
    let tests = simp to_z-of_z at c.multiplies.ensures in (
      λ yes.
          MayFollow-read c.args.rows.now c.args.next c.args.place c.args.multiplier c.index-rows-place.result c.kind.result c.if-place-rows.true.0 c.if-place-rows.true.1
          c.index-rows-place.is c.kind.ensures (tests.0 yes).1 (tests.0 yes).0,
      λ may.
          tests.1 (may.fits, MayFollow-multiplies c.args.rows.now c.args.next c.args.place c.args.multiplier c.index-rows-place.result c.kind.result c.index-rows-place.is c.kind.ensures may),
    )

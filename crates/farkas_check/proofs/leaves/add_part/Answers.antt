use Rattle.std.proofs.Common.{FitsSigned, refl}
use Rattle.std.specs.Int.{w128}
use Rattle.std.proofs.lemmas.Int.{to_z-of_z}
use Rattle.farkas_check.specs.Ties.Leaves.{MayFollow}
use Rattle.farkas_check.proofs.LeafSteps.{AddsPart-read, CanAdd_not}
use Rattle.farkas_check.proofs.leaves.add_part.Goals as goal
use Rattle.farkas_check.proofs.leaves.add_part.Goals.{After-index-rows-place}

follows_of : (c : After-index-rows-place) → MayFollow c.args.rows.now c.args.next (c.args.number, c.args.multiplier)
follows_of c =
    let f : FitsSigned w128 c.args.multiplier = c.ranges.multiplier in
    simp to_z-of_z at (c.if-not-may_follow.ensures.0 refl)

pub returns-then-not-branch : goal.returns-then-not-branch
returns-then-not-branch c =
    let f : FitsSigned w128 c.args.multiplier = c.ranges.multiplier in
    CanAdd_not c.args.rows.now c.args.next c.args.sum.now c.args.number c.args.multiplier c.index-rows-place.result c.index-rows-place.is
    (simp to_z-of_z at (rw c.if-not-branch.true at c.in_ok-add.ensures))

pub returns : goal.returns
returns c =
    let f : FitsSigned w128 c.args.multiplier = c.ranges.multiplier in
    AddsPart-read c.args.rows.now c.args.next c.args.sum.now c.args.number c.args.multiplier c.index-rows-place.result c.add.new.self c.index-rows-place.is
    (follows_of (goal.at.returns c).After-index-rows-place) (simp to_z-of_z at (rw c.if-not-branch.false at c.in_ok-add.ensures))

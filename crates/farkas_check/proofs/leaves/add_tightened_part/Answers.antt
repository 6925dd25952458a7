use Rattle.std.proofs.Common.{FitsSigned}
use Rattle.std.specs.Int.{w128}
use Rattle.std.proofs.lemmas.Int.{to_z-of_z}
use Rattle.farkas_check.proofs.LeafSteps.{AddsPart_tightened, CanAdd_not_tightened}
use Rattle.farkas_check.proofs.leaves.add_tightened_part.Goals as goal

pub returns-then-branch : goal.returns-then-branch
returns-then-branch c =
    let f : FitsSigned w128 c.args.multiplier = c.ranges.multiplier in
    AddsPart_tightened c.args.rows.now c.args.next c.args.sum.now c.args.number c.args.multiplier c.index-rows-place.result c.in_ok-row.row c.add_row.new.sum
    c.if-place-next.false c.if-place-rows.false c.index-rows-place.is c.in_ok-row.ensures.value (simp to_z-of_z at (rw c.if-branch.true at c.in_ok-add_row.ensures))

pub returns : goal.returns
returns c =
    let f : FitsSigned w128 c.args.multiplier = c.ranges.multiplier in
    CanAdd_not_tightened c.args.rows.now c.args.next c.args.sum.now c.args.number c.args.multiplier c.index-rows-place.result c.in_ok-row.row
    c.if-place-rows.false c.index-rows-place.is c.in_ok-row.ensures.value (simp to_z-of_z at (rw c.if-branch.false at c.in_ok-add_row.ensures))

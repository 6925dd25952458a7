use Rattle.std.proofs.Common.{FitsSigned, pos, get_or, rules}
use Rattle.std.specs.Int.{w128}
use Rattle.std.proofs.lemmas.Int.{to_z-of_z}
use Rattle.lin_rows.proofs.PointLemmas.{get_or-point_of}
use Rattle.lin_rows.proofs.points.value_at.Goals as goal

pub returns-then-column-point : goal.returns-then-column-point
returns-then-column-point c =
    let f : FitsSigned w128 (get_or c.args.point.now c.args.column (pos 0)) = search rules in
    simp to_z-of_z (c.if-column-point.true, get_or-point_of c.args.point.now c.args.column (pos 0) c.if-column-point.true)

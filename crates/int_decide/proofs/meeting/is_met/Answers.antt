use Rattle.std.proofs.Common.{rules, ◌≡◌, ◌<ℤ◌, pos, length}
use Rattle.std.specs.Prelude.{IsTrue}
use Rattle.std.specs.List.{AllByRecursion}
use Rattle.lin_rows.specs.Points.{point_of}
use Rattle.fm_elim.specs.Worth.{HoldsAt}
use Rattle.int_decide.specs.Ties.Picking.{AreOver}
use Rattle.int_decide.proofs.Numerators.{over_point}
use Rattle.int_decide.proofs.meeting.is_met.Goals as goal

pub returns-in-Some-2 : goal.returns-in-Some-2
returns-in-Some-2 c =
    let e : length c.args.values.now ≡ c.args.columns = search rules in
    let q : pos 0 <ℤ c.in-Some.denominator = search rules in
    let h : AreOver c.in-Some.denominator c.args.values.now c.in-Some-2.numerators.items = search rules in
    let a : IsTrue c.all_hold.result → AllByRecursion (HoldsAt c.in-Some.denominator (point_of c.in-Some-2.numerators.items)) c.args.rows.now = search rules in
    λ t. over_point c.args.columns c.args.rows.now c.in-Some.denominator c.args.values.now c.in-Some-2.numerators.items e q h (a t)

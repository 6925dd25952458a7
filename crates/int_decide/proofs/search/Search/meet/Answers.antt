use Rattle.farkas_check.specs.Walks.{goal_at_hand}
use Rattle.int_decide.proofs.WholePoints.{point_step}
use Rattle.int_decide.proofs.SearchSteps.{opens_goes}
use Rattle.int_decide.proofs.search.Search.meet.Goals as goal

pub returns-in_ok-meet_point-in-Point : goal.returns-in_ok-meet_point-in-Point
returns-in_ok-meet_point-in-Point c =
    point_step c.args.columns c.args.left (goal_at_hand c.args.self.now.walk) c.rows.result.now c.in-Point.values.items c.args.self.now c.open_cases.new.self c.meet_point.new.self
    c.in_ok-meet_point-in-Point.field-0 (rw c.if-branch.false at c.in_ok-open_cases.ensures) c.rows.ensures (rw c.in-Point.is at c.in_ok-parts.ensures.value) c.in_ok-parts.ensures.fits
    (rw c.in-Point.is at c.in_ok-parts.ensures.worth) (rw c.deref.ensures.value at c.in_ok-meet_point-in-Point.ensures)

pub returns-then-branch : goal.returns-then-branch
returns-then-branch c =
    opens_goes c.args.columns (record { left = c.args.left; goal = goal_at_hand c.args.self.now.walk }) c.args.self.now c.open_cases.new.self
    (rw c.if-branch.true at c.in_ok-open_cases.ensures)

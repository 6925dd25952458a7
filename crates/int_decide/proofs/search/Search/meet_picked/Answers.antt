use Rattle.std.proofs.Common.{◌≡◌, List, map, sym, ap, ◌∙◌, subst}
use Rattle.lin_rows.specs.Rows.{LinearRow, RowsBelow}
use Rattle.lin_rows.specs.Tightening.{tightened}
use Rattle.farkas_check.specs.Walks.{goal_at_hand}
use Rattle.farkas_check.specs.Refutes.{Goal}
use Rattle.int_decide.specs.Ties.Searching.{OpensNone}
use Rattle.int_decide.proofs.SearchSteps.{opens_goes_on}
use Rattle.int_decide.proofs.search.Search.meet_picked.Goals as goal

pub returns-then-branch : goal.returns-then-branch
returns-then-branch c =
    opens_goes_on c.args.columns (record { left = c.args.left; goal = goal_at_hand c.args.self.now.walk }) c.args.self.now c.open_cases.new.self
    (rw c.if-branch.true at c.in_ok-open_cases.ensures)

-- the rows at hand are those of the goal
rows_of : (c : goal.After-rows) → c.rows.result.now ≡ (goal_at_hand c.args.self.now.walk).rows
rows_of c =
    let h : OpensNone (record { left = c.args.left; goal = goal_at_hand c.args.self.now.walk }) (goal_at_hand c.open_cases.new.self.walk) c.args.self.now c.open_cases.new.self =
    rw c.if-branch.false at c.in_ok-open_cases.ensures in
    c.rows.ensures ∙ ap (λ (g : Goal). g.rows) h.same_goal

pub picked_outcome-requires-clause-below : goal.picked_outcome-requires-clause-below
picked_outcome-requires-clause-below c = subst (λ (rs : List LinearRow). RowsBelow c.args.columns rs) (sym (rows_of c)) c.requires.below

pub picked_outcome-requires-clause-tight : goal.picked_outcome-requires-clause-tight
picked_outcome-requires-clause-tight c = subst (λ (rs : List LinearRow). map tightened rs ≡ rs) (sym (rows_of c)) c.requires.tight

use Rattle.std.proofs.Common.{true, false}
use Rattle.typed_tree.specs.TypedTree.{TypedExpression}
use Rattle.typed_tree.specs.TypedView.{expression}
use Rattle.cond_jumps.specs.Conjunctions.{Just, With}
use Rattle.cond_jumps.specs.Comparisons.{truth_of_column}
use Rattle.cond_jumps.specs.Environments.{Environment}
use Rattle.cond_jumps.specs.Frames.{frame_environment}
use Rattle.cond_jumps.specs.Paths.{paths}
use Rattle.cond_jumps.proofs.PlanAnswers.{then_built}
use Rattle.cond_jumps.proofs.assignments.truth_list.Goals as goal

pub returns : goal.returns
returns c =
    let v : Environment = frame_environment c.args.frame.now.columns.items in
    let e : TypedExpression = expression c.args.value.now in
    then_built (With (paths v false e true) (Just (truth_of_column c.args.target true))) (With (paths v false e false) (Just (truth_of_column c.args.target false))) c.args.base
    c.in_ok-hit.hit c.in_ok-miss.miss c.in_ok-joined.field-0
    (c.in_ok-hit.ensures (paths v false e true) c.in_ok-made.ensures.wanted) (c.in_ok-miss.ensures (paths v false e false) c.in_ok-made.ensures.other) c.in_ok-joined.ensures

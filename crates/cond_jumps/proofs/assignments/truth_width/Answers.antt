use Rattle.std.proofs.Common.{true, false}
use Rattle.typed_tree.specs.TypedTree.{TypedExpression}
use Rattle.typed_tree.specs.TypedView.{expression}
use Rattle.cond_jumps.specs.Conjunctions.{Plan, Just, Then, With, listed_plan, is_long, is_wide}
use Rattle.cond_jumps.specs.Comparisons.{truth_of_column}
use Rattle.cond_jumps.specs.Environments.{Environment}
use Rattle.cond_jumps.specs.Frames.{frame_environment}
use Rattle.cond_jumps.specs.Paths.{paths}
use Rattle.cond_jumps.proofs.EvenLemmas.{named_even}
use Rattle.cond_jumps.proofs.PairAnswers.{one_width, either_wide, width_handed_on}
use Rattle.cond_jumps.proofs.WidthAnswers.{first_wide, second_wide}
use Rattle.cond_jumps.proofs.assignments.truth_width.Goals as goal

pub returns : goal.returns
returns c = λ n target l m.
    let v : Environment = frame_environment c.args.frame.now.columns.items in
    let e : TypedExpression = expression c.args.value.now in
    let w = c.in_ok-members.ensures n l in
    c.width_then.ensures (With (paths v false e true) (Just (truth_of_column target true))) (With (paths v false e false) (Just (truth_of_column target false))) n
    (c.in_ok-hit.ensures (paths v false e true) (Just (truth_of_column target true)) n (named_even n target true m) w.wanted (one_width target true n))
    (c.in_ok-miss.ensures (paths v false e false) (Just (truth_of_column target false)) n (named_even n target false m) w.other (one_width target false n))

pub returns-in_err-members : goal.returns-in_err-members
returns-in_err-members c = λ n target l m.
    let v : Environment = frame_environment c.args.frame.now.columns.items in
    let e : TypedExpression = expression c.args.value.now in
    let p : Plan = With (paths v false e true) (Just (truth_of_column target true)) in
    let q : Plan = With (paths v false e false) (Just (truth_of_column target false)) in
    let f = c.in_err-members.ensures n l in
    width_handed_on (Then p q) n c.from_residual.result c.in_err-members.field-0.0 c.from_residual.ensures.1
    ((λ t. either_wide (paths v false e true) (paths v false e false) (Just (truth_of_column target true)) (Just (truth_of_column target false)) n (f.0 t)), f.1)

pub returns-in_err-hit : goal.returns-in_err-hit
returns-in_err-hit c = λ n target l m.
    let v : Environment = frame_environment c.args.frame.now.columns.items in
    let e : TypedExpression = expression c.args.value.now in
    let p : Plan = With (paths v false e true) (Just (truth_of_column target true)) in
    let q : Plan = With (paths v false e false) (Just (truth_of_column target false)) in
    let w = c.in_ok-members.ensures n l in
    let f = c.in_err-hit.ensures (paths v false e true) (Just (truth_of_column target true)) n (named_even n target true m) w.wanted (one_width target true n) in
    width_handed_on (Then p q) n c.from_residual-in_err-hit.result c.in_err-hit.field-0.0 c.from_residual-in_err-hit.ensures.1
    ((λ t. first_wide (is_long (listed_plan (Then p q) n)) (is_wide p n) (is_wide q n) (f.0 t)), f.1)

pub returns-in_err-miss : goal.returns-in_err-miss
returns-in_err-miss c = λ n target l m.
    let v : Environment = frame_environment c.args.frame.now.columns.items in
    let e : TypedExpression = expression c.args.value.now in
    let p : Plan = With (paths v false e true) (Just (truth_of_column target true)) in
    let q : Plan = With (paths v false e false) (Just (truth_of_column target false)) in
    let w = c.in_ok-members.ensures n l in
    let f = c.in_err-miss.ensures (paths v false e false) (Just (truth_of_column target false)) n (named_even n target false m) w.other (one_width target false n) in
    width_handed_on (Then p q) n c.from_residual-in_err-miss.result c.in_err-miss.field-0.0 c.from_residual-in_err-miss.ensures.1
    ((λ t. second_wide (is_long (listed_plan (Then p q) n)) (is_wide p n) (is_wide q n) (f.0 t)), f.1)

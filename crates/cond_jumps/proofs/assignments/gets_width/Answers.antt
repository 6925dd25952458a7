use Rattle.std.proofs.Common.{Bool, false, subst, sym, ◌∙◌}
use Rattle.typed_tree.specs.TypedTree.{TypedExpression}
use Rattle.typed_tree.specs.TypedView.{expression}
use Rattle.cond_jumps.specs.Environments.{Environment}
use Rattle.cond_jumps.specs.Frames.{frame_environment}
use Rattle.cond_jumps.specs.Paths.{paths, linear, gets}
use Rattle.cond_jumps.specs.Ties.WidthView.{IsWidthAnswer}
use Rattle.cond_jumps.proofs.assignments.gets_width.Goals as goal

pub returns-then-branch : goal.returns-then-branch
returns-then-branch c = λ n target l m.
    let v : Environment = frame_environment c.args.frame.now.columns.items in
    let e : TypedExpression = expression c.args.value.now in
    let P : Bool → Type 0 = λ b. IsWidthAnswer (gets b (paths v false e) (linear v false e) target) n c.truth_width.result in
    subst P (sym c.if-branch.true ∙ c.in_ok-is_truth.ensures) (c.truth_width.ensures n target l m)

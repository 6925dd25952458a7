use Rattle.std.proofs.Common.{◌≡◌, ◌∙◌, true, sym}
use Rattle.typed_tree.specs.TypedView as view
use Rattle.boogie_run.specs.BoogiePoints.Stacks.{is_label}
use Rattle.boogie_run.proofs.BoogiePoints.LabelLaws.{labels_settled, labels_assertions, labels_points}
use Rattle.boogie_run.proofs.boogie_points.blocks.past_labels.Goals as goal

pub loop-first-preserved : goal.loop-first-preserved
loop-first-preserved c =
    let label : is_label (view.statement c.in-Some.first.now) ≡ true = sym c.is_a_label.ensures ∙ c.if-not-is_a_label.false in
    record {
      settled = λ l id at u a. c.loop-first.invariant.settled l id at u a ∙ labels_settled _ _ c.in-Some.first.now l id at u a c.in-Some.ensures label;
      assertions = λ procs. labels_assertions procs _ _ c.in-Some.first.now c.in-Some.ensures label ∙ c.loop-first.invariant.assertions procs;
      points = λ procs. labels_points procs _ _ c.in-Some.first.now c.in-Some.ensures label ∙ c.loop-first.invariant.points procs;
    }

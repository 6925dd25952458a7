use Rattle.std.proofs.Common.{◌≡◌, ◌∙◌, map, length, Some, ap}
use Rattle.std.specs.Prelude.{slice_get}
use Rattle.typed_tree.specs.TypedTree.{TypedProcedure}
use Rattle.typed_tree.specs.TypedView as view
use Rattle.typed_tree.specs.TypingRules.Counts.{checked_at_call}
use Rattle.boogie_run.specs.BoogiePoints.Actions.{plain_conditions}
use Rattle.boogie_run.proofs.BoogiePoints.ConditionLaws.{plain_requires_counted}
use Rattle.explain_top.proofs.trace_story.sites.checked_at.Goals as goal

pub returns-in-Some : goal.returns-in-Some
returns-in-Some c =
    let q : TypedProcedure = view.procedure c.in-Some.called.now in
    let e : Some q ≡ slice_get (map view.procedure c.args.procs.now) c.args.callee = c.in-Some.ensures in
    c.demanded.ensures ∙ ap (λ ss. length (plain_conditions (map view.specification ss))) c.deref.ensures.value ∙ plain_requires_counted q.specs ∙ ap checked_at_call e

use Rattle.std.proofs.Common.{◌≡◌, ◌∙◌, [], ◌∷◌, ◌++◌, map, Option, None, Some, length, ap}
use Rattle.std.specs.Prelude.{slice_get}
use Rattle.typed_tree.specs.TypedTree.{TypedProcedure}
use Rattle.typed_tree.specs.TypedView as view
use Rattle.boogie_run.specs.BoogiePoints.Actions.{plain_conditions}
use Rattle.trace_replay.specs.ToldChoices.Ties.Walks.{silent, call_kinds}
use Rattle.trace_replay.specs.ToldChoices.Ties.Views.{plain_kind, plain_kinds}
use Rattle.trace_replay.proofs.ToldSites.{if_ok}
use Rattle.trace_replay.proofs.ToldChoices.Steps.{two_steps}
use Rattle.trace_replay.proofs.told_choices.statements.add_call.Goals as goal

pub returns-in_default : goal.returns-in_default
returns-in_default c =
    let e : None ≡ slice_get (map view.procedure c.args.procs.now) c.args.callee = c.in_default.ensures in
    if_ok _ _ c.add.result
    (λ x so. so ∙ ap (λ (o : Option TypedProcedure). plain_kinds c.args.kinds.now.items ++ call_kinds c.args.frame.now o c.args.callee c.args.targets.now.items (map view.expression c.args.args.now)) e)
    c.add.ensures

pub returns : goal.returns
returns c =
    let q : TypedProcedure = view.procedure c.in-Some.called.now in
    let e : Some q ≡ slice_get (map view.procedure c.args.procs.now) c.args.callee = c.in-Some.ensures in
    let many : c.demanded.result ≡ length (plain_conditions q.specs) = c.demanded.ensures ∙ ap (λ ss. length (plain_conditions (map view.specification ss))) c.deref.ensures.value in
    if_ok _ _ c.add-2.result
    (λ x so.
    two_steps (plain_kinds c.args.kinds.now.items) (plain_kinds c.add_silent.new.kinds.items) (plain_kinds c.add-2.new.kinds.items) (silent c.demanded.result) (plain_kind _ ∷ [])
    c.in_ok-add_silent.ensures so
    ∙ (λ i. plain_kinds c.args.kinds.now.items ++ (silent (many i) ++ c.in_ok-called_kind.ensures i ∷ []))
    ∙ ap (λ (o : Option TypedProcedure). plain_kinds c.args.kinds.now.items ++ call_kinds c.args.frame.now o c.args.callee c.args.targets.now.items (map view.expression c.args.args.now)) e)
    c.add-2.ensures

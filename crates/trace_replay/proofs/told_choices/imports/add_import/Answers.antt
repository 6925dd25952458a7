use Rattle.std.proofs.Common.{◌≡◌, ◌∙◌, ◌++◌, map, Option, None, Some, length, sym, ap}
use Rattle.std.specs.Prelude.{slice_get}
use Rattle.typed_tree.specs.TypedTree.{TypedProcedure}
use Rattle.typed_tree.specs.TypedView as view
use Rattle.boogie_run.specs.BoogiePoints.Actions.{ensured_conditions}
use Rattle.letter_acts.specs.Values.{picked}
use Rattle.lowered_graph.specs.LoweredImports.Imports.{told_globals}
use Rattle.lowered_graph.specs.LoweredRuns.Choices.{call_choices}
use Rattle.trace_replay.proofs.ToldChoices.Steps.{no_step, import_told}
use Rattle.trace_replay.proofs.told_choices.imports.add_import.Goals as goal

pub returns-in_default-clause-value : goal.returns-in_default-clause-value
returns-in_default-clause-value c =
    let e : None ≡ slice_get (map view.procedure c.args.program.now.procs) c.args.callee = c.in_default.ensures ∙ ap (λ ps. slice_get (map view.procedure ps) c.args.callee) c.procs.ensures in
    no_step c.args.told.now.items (call_choices c.args.program.now.globals (slice_get (map view.procedure c.args.program.now.procs) c.args.callee) c.args.targets.now c.args.helpers.now c.args.after.now)
    (ap (λ (o : Option TypedProcedure). call_choices c.args.program.now.globals o c.args.targets.now c.args.helpers.now c.args.after.now) (sym e))

pub returns-clause-value : goal.returns-clause-value
returns-clause-value c =
    let q : TypedProcedure = view.procedure c.in-Some.called.now in
    let e : Some q ≡ slice_get (map view.procedure c.args.program.now.procs) c.args.callee = c.in-Some.ensures ∙ ap (λ ps. slice_get (map view.procedure ps) c.args.callee) c.procs.ensures in
    let many : c.ensured.result ≡ length (ensured_conditions q.specs) = c.ensured.ensures ∙ ap (λ ss. length (ensured_conditions (map view.specification ss))) c.deref-2.ensures.value in
    import_told (told_globals c.args.program.now.globals q.modifies c.args.targets.now c.args.helpers.now c.args.after.now) (picked c.args.after.now c.args.targets.now) (ensured_conditions q.specs) c.ensured.result many
    c.args.told.now.items c.add_globals.new.told.items c.add_values.new.told.items c.add_none.new.told.items c.add_none-2.new.told.items
    (c.in_ok-add_globals.ensures.value ∙ (λ i. c.args.told.now.items ++ map Some (told_globals (c.globals.ensures.value i) (c.deref.ensures.value i) c.args.targets.now c.args.helpers.now c.args.after.now)))
    c.in_ok-add_values.ensures.value c.in_ok-add_none.ensures.value c.in_ok-add_none-2.ensures.value
    ∙ ap (λ (o : Option TypedProcedure). c.args.told.now.items ++ call_choices c.args.program.now.globals o c.args.targets.now c.args.helpers.now c.args.after.now) e

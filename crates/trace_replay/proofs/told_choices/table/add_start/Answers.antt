use Rattle.std.proofs.Common.{◌≡◌, ◌∙◌, ◌++◌, map, Option, None, Some, length, sym, ap}
use Rattle.std.specs.Prelude.{slice_get}
use Rattle.std.proofs.lemmas.List.{length-map}
use Rattle.typed_tree.specs.TypedTree.{TypedProcedure}
use Rattle.typed_tree.specs.TypedView as view
use Rattle.typed_tree.specs.TypingRules.TypedParts.{typed_program}
use Rattle.boogie_run.specs.BoogiePoints.Actions.{plain_conditions}
use Rattle.trace_replay.specs.ToldChoices.Ties.Walks.{silent, start_kinds}
use Rattle.trace_replay.specs.ToldChoices.Ties.Views.{plain_kinds}
use Rattle.trace_replay.proofs.ToldChoices.Steps.{no_step, two_steps}
use Rattle.trace_replay.proofs.told_choices.table.add_start.Goals as goal

pub returns-in_default : goal.returns-in_default
returns-in_default c =
    let e : None ≡ slice_get (map view.procedure c.args.program.now.procs) c.args.program.now.entry = c.in_default.ensures ∙ (λ i. slice_get (map view.procedure (c.procs.ensures i)) (c.entry.ensures i)) in
    no_step (plain_kinds c.args.kinds.now.items) (start_kinds (typed_program c.args.program.now) (slice_get (map view.procedure c.args.program.now.procs) c.args.program.now.entry))
    (ap (start_kinds (typed_program c.args.program.now)) (sym e))

pub returns : goal.returns
returns c =
    let q : TypedProcedure = view.procedure c.in-Some.entry.now in
    let e : Some q ≡ slice_get (map view.procedure c.args.program.now.procs) c.args.program.now.entry = c.in-Some.ensures ∙ (λ i. slice_get (map view.procedure (c.procs.ensures i)) (c.entry.ensures i)) in
    let many : c.demanded.result ≡ length (plain_conditions q.specs) = c.demanded.ensures ∙ ap (λ ss. length (plain_conditions (map view.specification ss))) c.deref.ensures.value in
    let axioms : length c.axioms.result.now ≡ length (map view.expression c.args.program.now.axioms) = ap length c.axioms.ensures ∙ sym (length-map c.args.program.now.axioms view.expression) in
    two_steps (plain_kinds c.args.kinds.now.items) (plain_kinds c.add_silent.new.kinds.items) (plain_kinds c.add_silent-2.new.kinds.items) (silent (length c.axioms.result.now)) (silent c.demanded.result)
    c.in_ok-add_silent.ensures c.in_ok-add_silent-2.ensures
    ∙ (λ i. plain_kinds c.args.kinds.now.items ++ (silent (axioms i) ++ silent (many i)))
    ∙ ap (λ (o : Option TypedProcedure). plain_kinds c.args.kinds.now.items ++ start_kinds (typed_program c.args.program.now) o) e

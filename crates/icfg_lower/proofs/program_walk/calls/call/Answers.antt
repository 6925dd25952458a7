use Rattle.std.proofs.Common.{◌≡◌, ◌∙◌, ◌+◌, ◌<◌, ◌^◌, List, Some, refl, sym, ap, subst, map, length, arith}
use Rattle.std.specs.Prelude.{slice_get}
use Rattle.std.specs.List.{AllByRecursion}
use Rattle.typed_tree.specs.TypedView as view
use Rattle.typed_tree.specs.TypedTree.{TypedSpecification, TypedProcedure, TypedProgram}
use Rattle.typed_tree.specs.TypingRules.TypedParts.{TypedParts, typed_program}
use Rattle.boogie_run.specs.BoogiePoints.Actions.{plain_conditions}
use Rattle.lowered_graph.specs.LoweredSteps.ProgramFrames.{frame_at}
use Rattle.icfg_lower.specs.ProgramLayout.Layouts.{StandsIn}
use Rattle.icfg_lower.specs.PlaceEdges.WalkedParts.{walked}
use Rattle.icfg_lower.specs.ProgramWalk.Ties.Bounds.{HasNumbers}
use Rattle.icfg_lower.specs.ProgramWalk.Ties.Calls.{PartsMade, CallMade}
use Rattle.icfg_lower.proofs.ProgramWalk.CallSteps.{call_numbers, whole_call}
use Rattle.icfg_lower.proofs.ProgramWalk.ReadForms.{specifications_fit}
use Rattle.icfg_lower.specs.PlaceEdges.Forms.{AllFormsFit, SpecificationsFit}
use Rattle.icfg_lower.proofs.program_walk.calls.call.Goals as goal

pub demands-requires-clause-fit : goal.demands-requires-clause-fit
demands-requires-clause-fit c =
    let callee : TypedProcedure = view.procedure c.procedure_at-callee.result.now in
    subst (λ (ss : List TypedSpecification). SpecificationsFit (typed_program c.args.lowering.now.parts) ss) (ap (map view.specification) (sym c.deref.ensures.value))
    (subst (λ (x : TypedParts). SpecificationsFit (typed_program x) callee.specs) c.layout.ensures
    (specifications_fit (typed_program c.layout.result.now) c.args.called.callee callee c.procedure_at-callee.ensures.valid c.procedure_at-callee.ensures.listed))

pub perform-requires-clause-fit_args : goal.perform-requires-clause-fit_args
perform-requires-clause-fit_args c = subst (λ (t : TypedProgram). AllFormsFit t (map view.expression c.args.called.args.now)) (sym c.in_ok-done.ensures.program) c.requires.fit

pub perform-requires-clause-fit : goal.perform-requires-clause-fit
perform-requires-clause-fit c =
    let callee : TypedProcedure = view.procedure c.procedure_at-callee.result.now in
    subst (λ (t : TypedProgram). SpecificationsFit t callee.specs) (sym c.in_ok-done.ensures.program)
    (subst (λ (x : TypedParts). SpecificationsFit (typed_program x) callee.specs) c.layout.ensures
    (specifications_fit (typed_program c.layout.result.now) c.args.called.callee callee c.procedure_at-callee.ensures.valid c.procedure_at-callee.ensures.listed))

pub demands-requires-clause-numbers : goal.demands-requires-clause-numbers
demands-requires-clause-numbers c =
    let callee : TypedProcedure = view.procedure c.procedure_at-callee.result.now in
    let found : slice_get (typed_program c.args.lowering.now.parts).procs c.args.called.callee ≡ Some callee =
    ap (λ (x : TypedParts). slice_get (typed_program x).procs c.args.called.callee) (sym c.layout.ensures) ∙ c.procedure_at-callee.ensures.listed in
    call_numbers (typed_program c.args.lowering.now.parts) c.args.called.callee c.args.first c.args.here.place callee (map view.specification c.deref.result.now) found (ap (map view.specification) c.deref.ensures.value) c.requires.numbers

pub overflow_add-at : goal.overflow_add-at
overflow_add-at c =
    let callee : TypedProcedure = view.procedure c.procedure_at-callee.result.now in
    let found : slice_get (typed_program c.args.lowering.now.parts).procs c.args.called.callee ≡ Some callee =
    ap (λ (x : TypedParts). slice_get (typed_program x).procs c.args.called.callee) (sym c.layout.ensures) ∙ c.procedure_at-callee.ensures.listed in
    let numbers : HasNumbers (typed_program c.args.lowering.now.parts) c.args.first c.args.here.place (length (plain_conditions (map view.specification c.deref.result.now))) (length (plain_conditions (map view.specification c.deref.result.now)) + 1) =
    call_numbers (typed_program c.args.lowering.now.parts) c.args.called.callee c.args.first c.args.here.place callee (map view.specification c.deref.result.now) found (ap (map view.specification) c.deref.ensures.value) c.requires.numbers in
    let fits : c.args.here.place + (length (plain_conditions (map view.specification c.deref.result.now)) + 1) < 2 ^ 32 = numbers.places in
    let count : c.in_ok-done.done.count ≡ length (plain_conditions (map view.specification c.deref.result.now)) = c.in_ok-done.ensures.count in
    omega arith

pub perform-requires-clause-targets : goal.perform-requires-clause-targets
perform-requires-clause-targets c =
    subst (λ (t : TypedProgram). AllByRecursion (StandsIn (frame_at t c.args.here.proc)) c.args.called.targets.now) (sym c.in_ok-done.ensures.program) c.requires.targets

pub returns-clause-added : goal.returns-clause-added
returns-clause-added c =
    let callee : TypedProcedure = view.procedure c.procedure_at-callee.result.now in
    let specs : map view.specification c.deref.result.now ≡ callee.specs = ap (map view.specification) c.deref.ensures.value in
    let found : slice_get (typed_program c.args.lowering.now.parts).procs c.args.called.callee ≡ Some callee =
    ap (λ (x : TypedParts). slice_get (typed_program x).procs c.args.called.callee) (sym c.layout.ensures) ∙ c.procedure_at-callee.ensures.listed in
    whole_call (typed_program c.args.lowering.now.parts) c.args.here.proc c.args.called.span c.args.called.targets.now c.args.called.callee (map view.expression c.args.called.args.now) callee c.args.first c.args.here.place
    c.in_ok-done.done.count (c.args.here.place + c.in_ok-done.done.count) c.args.after c.in_ok-done.done.trouble.wide c.in_ok-done.done.trouble.big c.in_ok-found.found.wide c.in_ok-found.found.big c.either.result.wide c.either.result.big
    (walked c.args.lowering.now) (walked c.demands.new.lowering) (walked c.perform.new.lowering) (walked c.note.new.self) refl found
    (c.in_ok-done.ensures.count ∙ ap (λ (l : List TypedSpecification). length (plain_conditions l)) specs) refl c.either.ensures.wide c.either.ensures.big
    (subst
    (λ (l : List TypedSpecification). PartsMade (typed_program c.args.lowering.now.parts) c.args.here.proc c.args.called.span c.args.called.targets.now c.args.called.callee (map view.expression c.args.called.args.now) (plain_conditions l)
    c.args.first c.args.here.place c.in_ok-done.done.count c.in_ok-done.done.trouble.wide c.in_ok-done.done.trouble.big (walked c.args.lowering.now) (walked c.demands.new.lowering))
    specs c.in_ok-done.ensures.made)
    (subst
    (λ (t : TypedProgram). CallMade t c.args.here.proc c.args.called.span c.args.called.targets.now c.args.called.callee (map view.expression c.args.called.args.now) callee (c.args.here.place + c.in_ok-done.done.count)
    c.args.after c.in_ok-found.found.wide c.in_ok-found.found.big (walked c.demands.new.lowering) (walked c.perform.new.lowering))
    c.in_ok-done.ensures.program c.in_ok-found.ensures.made)
    (ap walked c.note.ensures)

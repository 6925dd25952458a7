use Rattle.std.proofs.Common.{◌≡◌, ◌∙◌, ◌≤◌, Some, sym, ap, map, length, arith, List, subst}
use Rattle.std.specs.Prelude.{slice_get}
use Rattle.std.proofs.lemmas.List.{length-map}
use Rattle.typed_tree.specs.TypedView as view
use Rattle.typed_tree.specs.TypingRules.TypedParts.{typed_program, TypedParts}
use Rattle.icfg_lower.specs.PlaceEdges.WalkedParts.{walked}
use Rattle.icfg_lower.proofs.ProgramWalk.LoopSteps.{seen_at, member_fits}
use Rattle.icfg_lower.proofs.ProgramWalk.StartSteps.{entry_found, plain_room, plain_counted, said_starts, requires_end}
use Rattle.icfg_lower.proofs.ProgramWalk.ReadForms.{specifications_fit}
use Rattle.icfg_lower.specs.PlaceEdges.Forms.{SpecificationFits, SpecificationsFit}
use Rattle.typed_tree.specs.TypedTree.{TypedProcedure, TypedSpecification}
use Rattle.icfg_lower.proofs.program_walk.starting.entry_requires.Goals as goal

pub start_said-requires-clause-fit : goal.start_said-requires-clause-fit
start_said-requires-clause-fit c =
    let entered : TypedProcedure = view.procedure c.procedure_at-entered.result.now in
    let all : SpecificationsFit (typed_program c.layout.result.now) entered.specs =
    specifications_fit (typed_program c.layout.result.now) c.args.start.proc entered c.procedure_at-entered.ensures.valid c.procedure_at-entered.ensures.listed in
    let here : SpecificationsFit (typed_program c.args.lowering.now.parts) (map view.specification c.deref-said-items.result.now) =
    subst (λ (ss : List TypedSpecification). SpecificationsFit (typed_program c.args.lowering.now.parts) ss) (ap (map view.specification) (sym c.deref-said-items.ensures.value))
    (subst (λ (x : TypedParts). SpecificationsFit (typed_program x) entered.specs) c.layout.ensures all) in
    member_fits SpecificationFits (typed_program c.args.lowering.now.parts) (typed_program c.loop-said.lowering.parts) (map view.specification c.deref-said-items.result.now) c.loop-said.said-index (view.specification c.said-item.result)
    c.loop-said.invariant.program here (seen_at view.specification c.deref-said-items.result.now c.loop-said.said-index c.said-item.result c.loop-said-test.true c.said-item.is)

pub start_said-requires-clause-number : goal.start_said-requires-clause-number
start_said-requires-clause-number c =
    plain_room (typed_program c.args.lowering.now.parts) c.args.start.proc c.args.start.conditions c.args.start.entry (view.procedure c.procedure_at-entered.result.now)
    (map view.specification c.deref-said-items.result.now) c.loop-said.said-index (view.specification c.said-item.result) c.args.first c.loop-said.number c.requires.start
    (entry_found c.layout.result.now c.args.lowering.now.parts c.args.start.proc (view.procedure c.procedure_at-entered.result.now) c.layout.ensures c.requires.start.proc c.procedure_at-entered.ensures.listed)
    (ap (map view.specification) (sym c.deref-said-items.ensures.value)) c.requires.first
    (seen_at view.specification c.deref-said-items.result.now c.loop-said.said-index c.said-item.result c.loop-said-test.true c.said-item.is) c.loop-said.invariant.number

pub loop-said-preserved : goal.loop-said-preserved
loop-said-preserved c =
    let here : slice_get (map view.specification c.deref-said-items.result.now) c.loop-said.said-index ≡ Some (view.specification c.said-item.result) =
    seen_at view.specification c.deref-said-items.result.now c.loop-said.said-index c.said-item.result c.loop-said-test.true c.said-item.is in
    record {
      program = c.in_ok-number.ensures.program ∙ c.loop-said.invariant.program;
      number =
          plain_counted (map view.specification c.deref-said-items.result.now) c.loop-said.said-index (view.specification c.said-item.result) c.args.first c.loop-said.number c.in_ok-number.number here
          c.loop-said.invariant.number c.in_ok-number.ensures.number;
      starts =
          said_starts (typed_program c.args.lowering.now.parts) (typed_program c.loop-said.lowering.parts) (view.procedure c.procedure_at-entered.result.now)
          (map view.specification c.deref-said-items.result.now) c.loop-said.said-index (view.specification c.said-item.result) c.args.first c.loop-said.number
          (walked c.args.lowering.now) (walked c.loop-said.lowering) (walked c.start_said.new.lowering) c.loop-said.invariant.program
          (entry_found c.layout.result.now c.args.lowering.now.parts c.args.start.proc (view.procedure c.procedure_at-entered.result.now) c.layout.ensures c.requires.start.proc c.procedure_at-entered.ensures.listed)
          (ap (map view.specification) (sym c.deref-said-items.ensures.value)) c.requires.first here c.loop-said.invariant.number c.loop-said.invariant.starts c.in_ok-number.ensures.starts;
    }

pub returns-clause-starts : goal.returns-clause-starts
returns-clause-starts c =
    let long : length (map view.specification c.deref-said-items.result.now) ≤ c.loop-said.said-index = omega (arith, c.loop-said-test.false, length-map c.deref-said-items.result.now view.specification) in
    requires_end (typed_program c.args.lowering.now.parts) c.args.start.proc (view.procedure c.procedure_at-entered.result.now) (map view.specification c.deref-said-items.result.now) c.loop-said.said-index c.args.first
    (walked c.args.lowering.now) (walked c.loop-said.lowering) c.requires.start.proc
    (entry_found c.layout.result.now c.args.lowering.now.parts c.args.start.proc (view.procedure c.procedure_at-entered.result.now) c.layout.ensures c.requires.start.proc c.procedure_at-entered.ensures.listed)
    (ap (map view.specification) (sym c.deref-said-items.ensures.value)) long c.loop-said.invariant.starts

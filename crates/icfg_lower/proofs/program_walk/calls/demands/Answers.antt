use Rattle.std.proofs.Common.{◌∙◌, ◌+◌, ◌∷◌, [], ◌++◌, List, refl, sym, subst, map, drop}
use Rattle.typed_tree.specs.TypedView as view
use Rattle.typed_tree.specs.TypedTree.{TypedInvariant, TypedProgram}
use Rattle.typed_tree.specs.TypingRules.TypedParts.{typed_program}
use Rattle.boogie_run.specs.BoogiePoints.Actions.{plain_conditions}
use Rattle.icfg_lower.specs.PlaceEdges.WalkedParts.{walked}
use Rattle.icfg_lower.specs.ProgramWalk.Ties.Calls.{AreLeft, PartsMade}
use Rattle.icfg_lower.proofs.ProgramWalk.CallSteps.{all_left, no_parts_made, room_left, left_at, none_at_end}
use Rattle.icfg_lower.proofs.ProgramWalk.ItemSteps.{still_there}
use Rattle.icfg_lower.proofs.ProgramWalk.LoopSteps.{member_fits, seen_at}
use Rattle.icfg_lower.specs.PlaceEdges.Forms.{AllFormsFit, SpecificationFits}
use Rattle.icfg_lower.proofs.program_walk.calls.demands.Goals as goal

pub demand_said-requires-clause-fit_args : goal.demand_said-requires-clause-fit_args
demand_said-requires-clause-fit_args c = subst (λ (t : TypedProgram). AllFormsFit t (map view.expression c.args.called.args.now)) (sym c.loop-said.invariant.program) c.requires.fit_args

pub demand_said-requires-clause-fit : goal.demand_said-requires-clause-fit
demand_said-requires-clause-fit c =
    member_fits SpecificationFits (typed_program c.args.lowering.now.parts) (typed_program c.loop-said.lowering.parts) (map view.specification c.args.specs.now) c.loop-said.said-index (view.specification c.said-item.result)
    c.loop-said.invariant.program c.requires.fit (seen_at view.specification c.args.specs.now c.loop-said.said-index c.said-item.result c.loop-said-test.true c.said-item.is)

pub loop-said-init : goal.loop-said-init
loop-said-init c = record {
  program = refl;
  left = all_left (plain_conditions (map view.specification c.args.specs.now));
  made = no_parts_made (typed_program c.args.lowering.now.parts) c.args.here.proc c.args.called.span c.args.called.targets.now c.args.called.callee (map view.expression c.args.called.args.now)
      (plain_conditions (map view.specification c.args.specs.now)) c.args.first c.args.here.place (walked c.args.lowering.now);
}

pub demand_said-requires-clause-procedure : goal.demand_said-requires-clause-procedure
demand_said-requires-clause-procedure c =
    still_there (typed_program c.args.lowering.now.parts) (typed_program c.loop-said.lowering.parts) c.args.here.proc c.loop-said.invariant.program c.requires.procedure

pub demand_said-requires-clause-numbers : goal.demand_said-requires-clause-numbers
demand_said-requires-clause-numbers c =
    room_left (typed_program c.args.lowering.now.parts) (typed_program c.loop-said.lowering.parts) (plain_conditions (map view.specification c.args.specs.now)) (plain_conditions (view.specification c.said-item.result ∷ []))
    (plain_conditions (map view.specification (drop (c.loop-said.said-index + 1) c.args.specs.now))) c.args.first c.args.here.place c.loop-said.done.count c.loop-said.invariant.program
    (subst (AreLeft (plain_conditions (map view.specification c.args.specs.now)) c.loop-said.done.count)
    (left_at view.specification c.args.specs.now c.loop-said.said-index c.said-item.result c.loop-said-test.true c.said-item.is) c.loop-said.invariant.left) c.requires.numbers

pub loop-said-preserved : goal.loop-said-preserved
loop-said-preserved c =
    let all : List TypedInvariant = plain_conditions (map view.specification c.args.specs.now) in
    let rest : List TypedInvariant = plain_conditions (map view.specification (drop (c.loop-said.said-index + 1) c.args.specs.now)) in
    let left : AreLeft all c.loop-said.done.count (plain_conditions (view.specification c.said-item.result ∷ []) ++ rest) =
    subst (AreLeft all c.loop-said.done.count) (left_at view.specification c.args.specs.now c.loop-said.said-index c.said-item.result c.loop-said-test.true c.said-item.is) c.loop-said.invariant.left in
    record {
      program = c.in_ok-done.ensures.program ∙ c.loop-said.invariant.program;
      left = c.in_ok-done.ensures.left all rest left;
      made =
          subst
          (λ (t : TypedProgram). PartsMade t c.args.here.proc c.args.called.span c.args.called.targets.now c.args.called.callee (map view.expression c.args.called.args.now) all c.args.first c.args.here.place
          c.in_ok-done.done.count c.in_ok-done.done.trouble.wide c.in_ok-done.done.trouble.big (walked c.args.lowering.now) (walked c.demand_said.new.lowering))
          c.loop-said.invariant.program
          (c.in_ok-done.ensures.made all rest (walked c.args.lowering.now) left
          (subst
          (λ (t : TypedProgram). PartsMade t c.args.here.proc c.args.called.span c.args.called.targets.now c.args.called.callee (map view.expression c.args.called.args.now) all c.args.first c.args.here.place
          c.loop-said.done.count c.loop-said.done.trouble.wide c.loop-said.done.trouble.big (walked c.args.lowering.now) (walked c.loop-said.lowering))
          (sym c.loop-said.invariant.program) c.loop-said.invariant.made));
    }

pub returns-clause-count : goal.returns-clause-count
returns-clause-count c = none_at_end view.specification c.args.specs.now c.loop-said.said-index (plain_conditions (map view.specification c.args.specs.now)) c.loop-said.done.count c.loop-said-test.false c.loop-said.invariant.left

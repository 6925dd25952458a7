use Rattle.std.proofs.Common.{◌∙◌, sym, map, length}
use Rattle.std.proofs.lemmas.List.{length-map}
use Rattle.typed_tree.specs.TypedView as view
use Rattle.typed_tree.specs.TypingRules.TypedParts.{typed_program}
use Rattle.icfg_lower.specs.PlaceEdges.WalkedParts.{walked}
use Rattle.icfg_lower.proofs.ProgramWalk.LoopSteps.{seen_at, number_within, room_behind, next_number, invariant_step, invariants_end, member_fits}
use Rattle.icfg_lower.specs.PlaceEdges.Forms.{FormsFit}
use Rattle.icfg_lower.proofs.program_walk.statements.invariants.Goals as goal

pub check-requires-clause-fit : goal.check-requires-clause-fit
check-requires-clause-fit c =
    member_fits (λ t i. FormsFit t i.cond) (typed_program c.args.lowering.now.parts) (typed_program c.loop-done.lowering.parts) (map view.invariant c.args.conditions.now) c.loop-done.done (view.invariant c.index-conditions-done.result)
    c.loop-done.invariant.program c.requires.fit (seen_at view.invariant c.args.conditions.now c.loop-done.done c.index-conditions-done.result c.loop-done-test.true c.index-conditions-done.is)

pub check-requires-clause-number : goal.check-requires-clause-number
check-requires-clause-number c =
    number_within (typed_program c.args.lowering.now.parts) (typed_program c.loop-done.lowering.parts) (map view.invariant c.args.conditions.now) c.args.first c.args.here.place (length c.args.conditions.now)
    c.loop-done.done c.loop-done.number (view.invariant c.index-conditions-done.result) c.loop-done.invariant.program
    (seen_at view.invariant c.args.conditions.now c.loop-done.done c.index-conditions-done.result c.loop-done-test.true c.index-conditions-done.is) c.requires.numbers c.loop-done.invariant.number

pub after_check-number-requires : goal.after_check-number-requires
after_check-number-requires c =
    room_behind (typed_program c.args.lowering.now.parts) (map view.invariant c.args.conditions.now) c.args.first c.args.here.place (length c.args.conditions.now) c.loop-done.done c.loop-done.number
    (view.invariant c.index-conditions-done.result) (seen_at view.invariant c.args.conditions.now c.loop-done.done c.index-conditions-done.result c.loop-done-test.true c.index-conditions-done.is)
    c.requires.numbers c.loop-done.invariant.number

pub loop-done-preserved : goal.loop-done-preserved
loop-done-preserved c = record {
  program = c.in_ok-check.ensures.program ∙ c.loop-done.invariant.program;
  number =
      next_number (map view.invariant c.args.conditions.now) c.args.first c.loop-done.done c.loop-done.number c.after_check-number.result (view.invariant c.index-conditions-done.result)
      (seen_at view.invariant c.args.conditions.now c.loop-done.done c.index-conditions-done.result c.loop-done-test.true c.index-conditions-done.is) c.loop-done.invariant.number c.after_check-number.ensures;
  done =
      invariant_step (typed_program c.args.lowering.now.parts) (typed_program c.loop-done.lowering.parts) c.args.here.proc (map view.invariant c.args.conditions.now) c.args.first c.args.here.place c.loop-done.done c.loop-done.number
      (view.invariant c.index-conditions-done.result) (walked c.args.lowering.now) (walked c.loop-done.lowering) (walked c.check.new.lowering) c.loop-done.invariant.program c.loop-done.invariant.program
      (seen_at view.invariant c.args.conditions.now c.loop-done.done c.index-conditions-done.result c.loop-done-test.true c.index-conditions-done.is) c.loop-done.invariant.number c.loop-done.invariant.done c.in_ok-check.ensures.item;
}

pub returns-clause-added : goal.returns-clause-added
returns-clause-added c =
    invariants_end (typed_program c.args.lowering.now.parts) c.args.here.proc (map view.invariant c.args.conditions.now) c.args.first c.args.here.place c.loop-done.done (length c.args.conditions.now) (walked c.args.lowering.now)
    (walked c.loop-done.lowering) c.loop-done.auto.done-end c.loop-done-test.false (sym (length-map c.args.conditions.now view.invariant)) c.loop-done.invariant.done

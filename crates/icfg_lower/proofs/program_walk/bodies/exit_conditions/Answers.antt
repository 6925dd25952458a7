use Rattle.std.proofs.Common.{◌≡◌, ◌∙◌, ◌∷◌, ◌+◌, refl, map, drop}
use Rattle.typed_tree.specs.TypedView as view
use Rattle.typed_tree.specs.TypingRules.TypedParts.{typed_program}
use Rattle.icfg_lower.specs.PlaceEdges.WalkedParts.{walked}
use Rattle.icfg_lower.proofs.ProgramWalk.ItemSteps.{still_there}
use Rattle.icfg_lower.proofs.ProgramWalk.ConditionSteps.{left_at_index, numbers_here, numbers_behind, checked_more, checked_none, exit_ends}
use Rattle.icfg_lower.proofs.ProgramWalk.LoopSteps.{member_fits, seen_at}
use Rattle.icfg_lower.specs.PlaceEdges.Forms.{SpecificationFits}
use Rattle.icfg_lower.proofs.program_walk.bodies.exit_conditions.Goals as goal

pub check_said-requires-clause-fit : goal.check_said-requires-clause-fit
check_said-requires-clause-fit c =
    member_fits SpecificationFits (typed_program c.args.lowering.now.parts) (typed_program c.loop-said.lowering.parts) (map view.specification c.args.specs.now) c.loop-said.said-index (view.specification c.said-item.result)
    c.loop-said.invariant.program c.requires.fit (seen_at view.specification c.args.specs.now c.loop-said.said-index c.said-item.result c.loop-said-test.true c.said-item.is)

pub check_said-requires-clause-procedure : goal.check_said-requires-clause-procedure
check_said-requires-clause-procedure c =
    still_there (typed_program c.args.lowering.now.parts) (typed_program c.loop-said.lowering.parts) c.args.proc c.loop-said.invariant.program c.requires.procedure

pub check_said-requires-clause-numbers : goal.check_said-requires-clause-numbers
check_said-requires-clause-numbers c =
    numbers_here (typed_program c.args.lowering.now.parts) (typed_program c.loop-said.lowering.parts) c.loop-said.next.assertion c.loop-said.next.place (view.specification c.said-item.result)
    (map view.specification (drop c.loop-said.said-index c.args.specs.now)) (map view.specification (drop (c.loop-said.said-index + 1) c.args.specs.now)) c.loop-said.invariant.program
    (left_at_index view.specification c.args.specs.now c.loop-said.said-index c.said-item.result c.loop-said-test.true c.said-item.is) c.loop-said.invariant.numbers

pub loop-said-preserved : goal.loop-said-preserved
loop-said-preserved c =
    let left : map view.specification (drop c.loop-said.said-index c.args.specs.now) ≡ view.specification c.said-item.result ∷ map view.specification (drop (c.loop-said.said-index + 1) c.args.specs.now) =
    left_at_index view.specification c.args.specs.now c.loop-said.said-index c.said-item.result c.loop-said-test.true c.said-item.is in
    record {
      program = c.in_ok-next.ensures.program ∙ c.loop-said.invariant.program;
      numbers =
          numbers_behind (typed_program c.args.lowering.now.parts) c.loop-said.next.assertion c.loop-said.next.place c.in_ok-next.next.assertion c.in_ok-next.next.place (view.specification c.said-item.result)
          (map view.specification (drop c.loop-said.said-index c.args.specs.now)) (map view.specification (drop (c.loop-said.said-index + 1) c.args.specs.now)) left
          c.in_ok-next.ensures.assertion c.in_ok-next.ensures.place c.loop-said.invariant.numbers;
      checked =
          checked_more (typed_program c.args.lowering.now.parts) (typed_program c.loop-said.lowering.parts) c.args.proc c.args.first.assertion c.args.first.place c.loop-said.next.assertion c.loop-said.next.place
          c.in_ok-next.next.assertion c.in_ok-next.next.place (view.specification c.said-item.result) _ _ _
          (walked c.args.lowering.now) (walked c.loop-said.lowering) (walked c.check_said.new.lowering) c.loop-said.invariant.program left c.in_ok-next.ensures.assertion c.in_ok-next.ensures.place
          c.in_ok-next.ensures.checked c.loop-said.invariant.checked;
    }

pub returns-clause-added : goal.returns-clause-added
returns-clause-added c =
    exit_ends (typed_program c.args.lowering.now.parts) c.args.proc c.args.first.assertion c.args.first.place (map view.specification c.args.specs.now) (walked c.args.lowering.now) (walked c.loop-said.lowering) refl
    (c.loop-said.invariant.checked (walked c.loop-said.lowering)
    (checked_none (typed_program c.args.lowering.now.parts) c.args.proc c.loop-said.next.assertion c.loop-said.next.place view.specification c.args.specs.now c.loop-said.said-index (walked c.loop-said.lowering) c.loop-said-test.false))

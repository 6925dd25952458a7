use Rattle.std.proofs.Common.{◌≡◌, ◌∙◌, ◌∷◌, ◌+◌, refl, map, drop}
use Rattle.typed_tree.specs.TypedView as view
use Rattle.typed_tree.specs.TypingRules.TypedParts.{typed_program}
use Rattle.icfg_lower.specs.PlaceEdges.WalkedParts.{walked}
use Rattle.icfg_lower.proofs.ProgramWalk.ItemSteps.{still_there}
use Rattle.icfg_lower.proofs.ProgramWalk.ConditionSteps.{left_at_index, free_room, free_counted, assumed_more, assumed_none, entry_ends}
use Rattle.icfg_lower.proofs.ProgramWalk.LoopSteps.{member_fits, seen_at}
use Rattle.icfg_lower.specs.PlaceEdges.Forms.{SpecificationFits}
use Rattle.icfg_lower.proofs.program_walk.bodies.entry_conditions.Goals as goal

pub assume_said-requires-clause-fit : goal.assume_said-requires-clause-fit
assume_said-requires-clause-fit c =
    member_fits SpecificationFits (typed_program c.args.lowering.now.parts) (typed_program c.loop-said.lowering.parts) (map view.specification c.args.specs.now) c.loop-said.said-index (view.specification c.said-item.result)
    c.loop-said.invariant.program c.requires.fit (seen_at view.specification c.args.specs.now c.loop-said.said-index c.said-item.result c.loop-said-test.true c.said-item.is)

pub assume_said-requires-clause-procedure : goal.assume_said-requires-clause-procedure
assume_said-requires-clause-procedure c =
    still_there (typed_program c.args.lowering.now.parts) (typed_program c.loop-said.lowering.parts) c.args.here.proc c.loop-said.invariant.program c.requires.procedure

pub assume_said-requires-clause-place : goal.assume_said-requires-clause-place
assume_said-requires-clause-place c =
    free_room c.loop-said.place _ (view.specification c.said-item.result) (map view.specification (drop c.loop-said.said-index c.args.specs.now)) (map view.specification (drop (c.loop-said.said-index + 1) c.args.specs.now))
    (left_at_index view.specification c.args.specs.now c.loop-said.said-index c.said-item.result c.loop-said-test.true c.said-item.is) c.loop-said.invariant.count c.requires.places

pub loop-said-preserved : goal.loop-said-preserved
loop-said-preserved c =
    let left : map view.specification (drop c.loop-said.said-index c.args.specs.now) ≡ view.specification c.said-item.result ∷ map view.specification (drop (c.loop-said.said-index + 1) c.args.specs.now) =
    left_at_index view.specification c.args.specs.now c.loop-said.said-index c.said-item.result c.loop-said-test.true c.said-item.is in
    record {
      program = c.in_ok-place.ensures.program ∙ c.loop-said.invariant.program;
      count = free_counted c.loop-said.place c.in_ok-place.place _ (view.specification c.said-item.result) _ _ left c.in_ok-place.ensures.place c.loop-said.invariant.count;
      assumed =
          assumed_more (typed_program c.args.lowering.now.parts) (typed_program c.loop-said.lowering.parts) c.args.here.proc c.args.here.place c.loop-said.place c.in_ok-place.place (view.specification c.said-item.result) _ _ _
          (walked c.args.lowering.now) (walked c.loop-said.lowering) (walked c.assume_said.new.lowering) c.loop-said.invariant.program left c.in_ok-place.ensures.place c.in_ok-place.ensures.assumed
          c.loop-said.invariant.assumed;
    }

pub returns-clause-added : goal.returns-clause-added
returns-clause-added c =
    entry_ends (typed_program c.args.lowering.now.parts) c.args.here.proc c.args.here.place (map view.specification c.args.specs.now) (walked c.args.lowering.now) (walked c.loop-said.lowering) refl
    (c.loop-said.invariant.assumed (walked c.loop-said.lowering)
    (assumed_none (typed_program c.args.lowering.now.parts) c.args.here.proc c.loop-said.place view.specification c.args.specs.now c.loop-said.said-index (walked c.loop-said.lowering) c.loop-said-test.false))

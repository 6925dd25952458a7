use Rattle.typed_tree.specs.TypedView as view
use Rattle.typed_tree.specs.TypingRules.TypedParts.{typed_program}
use Rattle.icfg_lower.specs.PlaceEdges.WalkedParts.{walked}
use Rattle.icfg_lower.proofs.ProgramWalk.StartSteps.{said_one}
use Rattle.icfg_lower.proofs.ProgramWalk.ReadForms.{plain_fits}
use Rattle.icfg_lower.proofs.program_walk.starting.start_said.Goals as goal

pub start_condition-requires-clause-fit : goal.start_condition-requires-clause-fit
start_condition-requires-clause-fit c = plain_fits (typed_program c.args.lowering.now.parts) (view.specification c.args.said.now) (view.invariant c.in-Some.condition.now) c.requires.fit c.in-Some.ensures

pub returns-clause-starts : goal.returns-clause-starts
returns-clause-starts c = λ rest.
    said_one (typed_program c.args.lowering.now.parts) c.args.number (view.invariant c.in-Some.condition.now) _ rest (walked c.args.lowering.now) (walked c.start_condition.new.lowering)
    c.in-Some.ensures c.in_ok-start_condition.ensures.starts

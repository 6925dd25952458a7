use Rattle.std.proofs.Common.{map}
use Rattle.typed_tree.specs.TypedView as view
use Rattle.typed_tree.specs.TypingRules.TypedParts.{typed_program}
use Rattle.icfg_lower.specs.PlaceEdges.WalkedParts.{walked}
use Rattle.icfg_lower.proofs.ProgramWalk.CallSteps.{one_less, first_left, part_demanded}
use Rattle.icfg_lower.proofs.ProgramWalk.ReadForms.{plain_fits}
use Rattle.icfg_lower.proofs.program_walk.calls.demand_said.Goals as goal

pub demand_one-requires-clause-fit : goal.demand_one-requires-clause-fit
demand_one-requires-clause-fit c = plain_fits (typed_program c.args.lowering.now.parts) (view.specification c.args.said.now) (view.invariant c.in-Some.condition.now) c.requires.fit c.in-Some.ensures

pub returns-clause-left : goal.returns-clause-left
returns-clause-left c = λ all rest h. one_less all _ rest c.args.done.count (view.invariant c.in-Some.condition.now) c.in-Some.ensures h

pub returns-clause-made : goal.returns-clause-made
returns-clause-made c = λ all rest w h done.
    part_demanded (typed_program c.args.lowering.now.parts) c.args.here.proc c.args.called.span c.args.called.targets.now c.args.called.callee (map view.expression c.args.called.args.now) all c.args.first c.args.here.place
    c.args.done.count (view.invariant c.in-Some.condition.now) c.args.done.trouble.wide c.args.done.trouble.big c.in_ok-found.found.wide c.in_ok-found.found.big c.either.result.wide c.either.result.big
    w (walked c.args.lowering.now) (walked c.demand_one.new.lowering) (first_left all _ rest c.args.done.count (view.invariant c.in-Some.condition.now) c.in-Some.ensures h) c.either.ensures.wide c.either.ensures.big
    c.in_ok-found.ensures.made done

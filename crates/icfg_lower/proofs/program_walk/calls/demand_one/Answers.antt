use Rattle.std.proofs.Common.{◌+◌, map, sym, subst}
use Rattle.typed_tree.specs.TypedView as view
use Rattle.typed_tree.specs.TypingRules.TypedParts.{typed_program}
use Rattle.icfg_lower.specs.PlaceEdges.Forms.{FormsFit}
use Rattle.icfg_lower.specs.PlaceEdges.WalkedParts.{WalkedParts}
use Rattle.icfg_lower.proofs.ProgramWalk.CallSteps.{if_ok, demand_led}
use Rattle.icfg_lower.proofs.program_walk.calls.demand_one.Goals as goal

pub demand-requires-clause-fit : goal.demand-requires-clause-fit
demand-requires-clause-fit c = subst (λ (x : WalkedParts). FormsFit (typed_program x.parts) (view.expression c.args.cond.now)) (sym c.in_ok-assertion.ensures) c.requires.fit

pub returns-clause-made : goal.returns-clause-made
returns-clause-made c =
    if_ok _ _ c.demand.result
    (λ x h. demand_led c.args.called.span c.args.number c.args.here.proc c.args.here.place (c.args.here.place + 1) c.error_place-wrong.result (map view.expression c.args.called.args.now)
    (view.expression c.args.cond.now) x.wide x.big c.layout.result.now c.args.lowering.now c.assertion.new.self c.demand.new.lowering c.in_ok-assertion.ensures c.layout.ensures c.error_place-wrong.ensures h)
    c.demand.ensures

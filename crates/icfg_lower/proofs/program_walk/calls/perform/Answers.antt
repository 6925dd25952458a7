use Rattle.std.proofs.Common.{ap, map}
use Rattle.std.specs.Option.{option_map}
use Rattle.typed_tree.specs.TypedView as view
use Rattle.typed_tree.specs.TypingRules.TypedParts.{typed_program}
use Rattle.icfg_lower.specs.PlaceEdges.WalkedParts.{walked}
use Rattle.icfg_lower.proofs.ProgramWalk.CallSteps.{if_ok, if_on, entered, unseen}
use Rattle.icfg_lower.proofs.program_walk.calls.perform.Goals as goal

pub returns-in-Some-clause-program : goal.returns-in-Some-clause-program
returns-in-Some-clause-program c = if_on _ _ c.enter.result (λ x h. h.program) (c.enter.ensures (view.procedure c.args.callee.now) c.requires.callee)

pub returns-in-Some-clause-made : goal.returns-in-Some-clause-made
returns-in-Some-clause-made c =
    if_ok _ _ c.enter.result
    (λ x h. entered (typed_program c.args.lowering.now.parts) c.args.here.proc c.args.called.span c.args.called.targets.now c.args.called.callee (map view.expression c.args.called.args.now) (view.procedure c.args.callee.now)
    (view.statements c.in-Some.field-0.items) c.args.here.place c.args.after x.wide x.big (walked c.args.lowering.now) (walked c.enter.new.lowering) (ap (option_map (λ b. view.statements b.items)) c.in-Some.is) h)
    (c.enter.ensures (view.procedure c.args.callee.now) c.requires.callee)

pub returns-in-None-clause-made : goal.returns-in-None-clause-made
returns-in-None-clause-made c =
    if_ok _ _ c.import.result
    (λ x h. unseen (typed_program c.args.lowering.now.parts) c.args.here.proc c.args.called.span c.args.called.targets.now c.args.called.callee (map view.expression c.args.called.args.now) (view.procedure c.args.callee.now)
    c.args.here.place c.args.after x.wide x.big (walked c.args.lowering.now) (walked c.import.new.lowering) (ap (option_map (λ b. view.statements b.items)) c.in-None.is) h)
    c.import.ensures

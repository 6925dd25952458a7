use Rattle.std.proofs.Common.{◌∙◌, refl, sym}
use Rattle.typed_tree.specs.TypingRules.TypedParts.{typed_program}
use Rattle.icfg_lower.specs.PlaceEdges.WalkedParts.{walked}
use Rattle.icfg_lower.proofs.ProgramWalk.LoopSteps.{on_ok, goes_to}
use Rattle.icfg_lower.proofs.program_walk.statements.jump.Goals as goal

pub returns-clause-added : goal.returns-clause-added
returns-clause-added c =
    on_ok _ _ c.ways.result
    (λ h span id after loops. goes_to (typed_program c.args.lowering.now.parts) (typed_program c.args.lowering.now.parts) c.args.here.proc c.args.here.place c.args.body.now.exit c.args.body.now.labels.items loops after span id
    c.args.labels.now (walked c.args.lowering.now) (walked c.ways.new.lowering) refl refl (sym c.is_empty.ensures ∙ c.if-is_empty.false) h)
    c.ways.ensures.led

use Rattle.std.proofs.Common.{refl}
use Rattle.typed_tree.specs.TypedView as view
use Rattle.typed_tree.specs.TypingRules.TypedParts.{typed_program}
use Rattle.icfg_lower.specs.PlaceEdges.WalkedParts.{walked}
use Rattle.icfg_lower.proofs.ProgramWalk.LoopSteps.{on_ok}
use Rattle.icfg_lower.proofs.ProgramWalk.StartSteps.{one_starts}
use Rattle.icfg_lower.proofs.program_walk.starting.start_condition.Goals as goal

pub returns-clause-starts : goal.returns-clause-starts
returns-clause-starts c =
    on_ok _ _ c.assume.result
    (one_starts (typed_program c.args.lowering.now.parts) c.args.start.proc c.args.start.conditions c.args.start.entry c.args.number c.behind.result (view.expression c.args.cond.now) c.args.span
    (walked c.args.lowering.now) (walked c.assume.new.lowering) refl c.requires.start c.behind.ensures)
    c.assume.ensures.item

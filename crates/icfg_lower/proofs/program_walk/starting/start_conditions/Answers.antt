use Rattle.typed_tree.specs.TypingRules.TypedParts.{typed_program}
use Rattle.icfg_lower.specs.PlaceEdges.WalkedParts.{walked}
use Rattle.icfg_lower.proofs.ProgramWalk.LoopSteps.{on_ok}
use Rattle.icfg_lower.proofs.ProgramWalk.StartSteps.{all_start}
use Rattle.icfg_lower.proofs.program_walk.starting.start_conditions.Goals as goal

pub returns-clause-starts : goal.returns-clause-starts
returns-clause-starts c =
    on_ok _ _ c.entry_requires.result
    (all_start (typed_program c.args.lowering.now.parts) (typed_program c.axioms.new.lowering.parts) c.args.start.proc c.args.start.conditions c.args.start.entry c.in_ok-first.first
    (walked c.args.lowering.now) (walked c.axioms.new.lowering) (walked c.entry_requires.new.lowering) c.in_ok-first.ensures.program c.requires.start c.in_ok-first.ensures.number c.in_ok-first.ensures.starts)
    c.entry_requires.ensures.starts

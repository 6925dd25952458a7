use Rattle.icfg_lower.proofs.ProgramWalk.ItemSteps.{item_led}
use Rattle.icfg_lower.proofs.program_walk.items.choose.Goals as goal

pub returns-clause-item : goal.returns-clause-item
returns-clause-item c =
    item_led c.args.span _ _ c.in_ok-trouble.trouble.wide c.in_ok-trouble.trouble.big c.args.lowering.now c.guard.new.lowering c.note.new.self c.in_ok-trouble.ensures c.note.ensures

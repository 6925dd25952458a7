use Rattle.letter_acts.specs.Frames.{olds_of}
use Rattle.icfg_lower.proofs.ReadSteps.{all_old}
use Rattle.icfg_lower.proofs.program_walk.starting.old_columns.Goals as goal

pub returns : goal.returns
returns c =
    all_old c.args.frame.now.columns.items c.deref-column-items.result.now c.loop-number.number c.loop-number.found.items (olds_of c.args.frame.now.columns.items) c.deref-column-items.ensures.value c.loop-number-test.false
    c.loop-number.invariant

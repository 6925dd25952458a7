use Rattle.letter_acts.specs.Invariant.{type_at}
use Rattle.letter_acts.proofs.FrameRows.LoopLaws.{mapped_next}
use Rattle.letter_acts.proofs.frame_rows.frames.types_at.Goals as goal

pub loop-column-preserved : goal.loop-column-preserved
loop-column-preserved c =
    mapped_next (type_at c.args.frame.now) c.args.columns.now c.loop-column.column-index 0 c.loop-column.types.items c.push.new.self.items c.type_at.result c.loop-column-test.true
    c.loop-column.invariant c.in_ok-push.ensures.items c.type_at.ensures

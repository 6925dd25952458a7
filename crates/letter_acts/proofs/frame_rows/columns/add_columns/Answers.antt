use Rattle.letter_acts.proofs.FrameRows.LoopLaws.{counted_next}
use Rattle.letter_acts.proofs.frame_rows.columns.add_columns.Goals as goal

pub loop-i-preserved : goal.loop-i-preserved
loop-i-preserved c = counted_next c.args.from c.loop-i.i c.args.columns.now.items c.loop-i.columns.items c.push.new.self.items c.loop-i.invariant c.in_ok-push.ensures.items

use Rattle.letter_acts.proofs.FrameRows.LoopLaws.{bounds_next}
use Rattle.letter_acts.proofs.frame_rows.rows.bound_rows.Goals as goal

pub loop-i-preserved : goal.loop-i-preserved
loop-i-preserved c = (
  bounds_next c.args.first c.loop-i.i c.args.types.now _ c.loop-i.made.items c.add_bounds.new.made.items c.loop-i-test.true c.loop-i.invariant.0 c.in_ok-add_bounds.ensures.value,
  c.in_ok-add_bounds.ensures.valid,
)

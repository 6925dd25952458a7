use Rattle.std.proofs.Common.{◌∙◌, ap}
use Rattle.lin_rows.specs.Tightening.{tightened}
use Rattle.letter_acts.proofs.FrameRows.LoopLaws.{mapped_next}
use Rattle.rank_lasso.proofs.ranking_system.system.tightened_rows.Goals as goal

pub loop-row-preserved : goal.loop-row-preserved
loop-row-preserved c =
    mapped_next tightened c.args.rows.now c.loop-row.row-index c.row-item.result c.loop-row.tight.items c.push.new.self.items c.in_ok-tighten.field-0 c.loop-row-test.true
    c.loop-row.invariant c.in_ok-push.ensures.items (c.in_ok-tighten.ensures.value ∙ ap tightened c.row-item.is)

use Rattle.std.proofs.Common.{◌∙◌, ap}
use Rattle.std.specs.Prelude.{slice_index}
use Rattle.lin_rows.specs.Rows.{LinearRow, IsRow}
use Rattle.letter_acts.specs.FrameRows.Rows.{renamed}
use Rattle.letter_acts.proofs.FrameRows.LoopLaws.{all_pushed}
use Rattle.letter_acts.proofs.FrameRows.LoopLaws.{mapped_next}
use Rattle.letter_acts.proofs.frame_rows.rows.renamed_rows.Goals as goal

pub loop-row-preserved : goal.loop-row-preserved
loop-row-preserved c =
    let to : LinearRow → LinearRow = renamed (slice_index c.args.names.now) in
    let row : LinearRow = c.in_ok-renamed_row.field-0 in (
      mapped_next to c.args.rows.now c.loop-row.row-index c.row-item.result c.loop-row.made.items c.push.new.self.items row c.loop-row-test.true c.loop-row.invariant.0 c.in_ok-push.ensures.items
          (c.in_ok-renamed_row.ensures.value ∙ ap to c.row-item.is),
      all_pushed IsRow c.loop-row.made.items c.push.new.self.items row c.in_ok-push.ensures.items c.loop-row.invariant.1 c.in_ok-renamed_row.ensures.valid,
    )

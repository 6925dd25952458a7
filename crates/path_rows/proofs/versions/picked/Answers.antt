use Rattle.std.proofs.Common.{get_or, refl}
use Rattle.std.specs.Prelude.{slice_index}
use Rattle.letter_acts.proofs.FrameRows.LoopLaws.{mapped_next}
use Rattle.path_rows.proofs.versions.picked.Goals as goal

pub loop-column-preserved : goal.loop-column-preserved
loop-column-preserved c =
    let here = c.args.here.now in
    let columns = c.args.columns.now in
    let i = c.loop-column.column-index in
    mapped_next (slice_index here) columns i 0 c.loop-column.versions.items c.push.new.self.items (slice_index here (get_or columns i 0)) c.loop-column-test.true c.loop-column.invariant
    c.in_ok-push.ensures.items refl

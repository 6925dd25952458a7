use Rattle.std.proofs.Common.{List, ◌++◌, map}
use Rattle.lin_rows.specs.Rows.{LinearRow}
use Rattle.cond_jumps.specs.Moving.{moved_row}
use Rattle.cond_jumps.proofs.ListTurns.{mapped_turn}
use Rattle.cond_jumps.proofs.joining.add_moved.Goals as goal

pub loop-other-preserved : goal.loop-other-preserved
loop-other-preserved c =
    let f : LinearRow → LinearRow = moved_row c.args.base c.args.by in
    let whole : List LinearRow = c.args.rows.now.items ++ map f c.args.others.now in
    mapped_turn f c.args.others.now c.loop-other.other-index c.other-item.result c.loop-other.rows.items c.push.new.self.items whole c.in_ok-moved_row.field-0 c.loop-other-test.true
    c.other-item.is c.in_ok-push.ensures.items c.in_ok-moved_row.ensures c.loop-other.invariant

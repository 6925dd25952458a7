use Rattle.std.proofs.Common.{◌<◌, length, arith, get_or}
use Rattle.fm_elim.specs.Columns.{cleared, ClearedFits}
use Rattle.fm_elim.proofs.Written.{written_more}
use Rattle.std.specs.List.{AllByRecursion}
use Rattle.fm_elim.proofs.LoopSteps.{written_item}
use Rattle.fm_elim.proofs.Exits.{exit_part}
use Rattle.fm_elim.proofs.columns.all_cleared.Goals as goal

pub loop-row-preserved : goal.loop-row-preserved
loop-row-preserved c =
    let i = c.loop-row.row-index in
    let inside : i < length c.loop-row.row-items = omega arith in
    let more = written_more (cleared c.args.column c.args.equality.now) (ClearedFits c.args.column c.args.equality.now) c.args.rows.items
    c.loop-row.row-items i c.row-item.result c.clear.new.row c.loop-row.invariant.value inside
    c.in_ok-clear.ensures.1 c.in_ok-clear.ensures.0 c.loop-row.invariant.fits in
    record { value = more.0; fits = more.1 }

pub returns-in_err-clear : goal.returns-in_err-clear
returns-in_err-clear c =
    let k = c.args.column in
    let e = c.args.equality.now in
    let inside : c.loop-row.row-index < length c.loop-row.row-items = omega arith in
    exit_part c.from_residual.result _ (AllByRecursion (ClearedFits k e) c.args.rows.items) (ClearedFits k e (get_or c.loop-row.row-items c.loop-row.row-index c.row-item.result)) c.in_err-clear.field-0.0
    (written_item (cleared k e) (ClearedFits k e) c.args.rows.items c.loop-row.row-items c.loop-row.row-index c.row-item.result c.loop-row.invariant.value inside)
    c.in_err-clear.ensures c.from_residual.ensures.1

use Rattle.std.proofs.Common.{arith}
use Rattle.letter_acts.specs.Frames.{is_local}
use Rattle.letter_acts.specs.FrameRows.Frames.{is_old}
use Rattle.nested_itp.proofs.TripleSteps.BoundLaws.{few_chosen}
use Rattle.nested_itp.proofs.triple_steps.readings.call_columns.Goals as goal

pub overflow_add-helped : goal.overflow_add-helped
overflow_add-helped c =
    let o = few_chosen is_old c.args.callee.now in
    let f = c.old_count.ensures in
    omega (arith, o, f)

pub overflow_add-result : goal.overflow_add-result
overflow_add-result c =
    let l = few_chosen is_local c.args.callee.now in
    let o = few_chosen is_old c.args.callee.now in
    let e = c.local_count.ensures in
    let f = c.old_count.ensures in
    omega (arith, l, o, e, f)

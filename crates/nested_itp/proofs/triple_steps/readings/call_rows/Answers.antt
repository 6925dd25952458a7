use Rattle.std.proofs.Common.{arith}
use Rattle.letter_acts.specs.Frames.{is_local, is_variable}
use Rattle.letter_acts.specs.FrameRows.Frames.{is_old}
use Rattle.nested_itp.proofs.TripleSteps.BoundLaws.{few_chosen, few_bounds}
use Rattle.nested_itp.proofs.triple_steps.readings.call_rows.Goals as goal

pub overflow_add-bounds : goal.overflow_add-bounds
overflow_add-bounds c =
    let l = few_bounds is_local c.args.callee.now in
    let o = few_bounds is_old c.args.callee.now in
    let e = c.local_bounds.ensures in
    let f = c.old_bounds.ensures in
    omega (arith, l, o, e, f)

pub overflow_add-counted : goal.overflow_add-counted
overflow_add-counted c =
    let v = few_chosen is_variable c.args.callee.now in
    let l = few_bounds is_local c.args.callee.now in
    let o = few_bounds is_old c.args.callee.now in
    let e = c.local_bounds.ensures in
    let f = c.old_bounds.ensures in
    let g = c.variable_count.ensures in
    omega (arith, v, l, o, e, f, g)

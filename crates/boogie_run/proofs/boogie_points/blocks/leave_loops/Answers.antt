use Rattle.std.proofs.Common.{◌∙◌, ap, sym, map, arith}
use Rattle.typed_tree.specs.TypedView as view
use Rattle.boogie_run.specs.BoogiePoints.View.{todo_of, stack_of}
use Rattle.boogie_run.proofs.LeaveSteps.{left_block, left_loop, left_last, left_all, room_left, fewer}
use Rattle.boogie_run.proofs.boogie_points.blocks.leave_loops.Goals as goal

pub loop-last-preserved : goal.loop-last-preserved
loop-last-preserved c =
    let procs = map view.procedure c.args.procs.now in
    let top = ap stack_of (sym c.deref.ensures.value) ∙ c.in-Some.ensures in
    record {
      broken = left_block procs c.loop-last.more _ _ _ _ (todo_of c.in-Some.last) top c.drop_top.ensures c.if-last.false c.loop-last.invariant.broken;
      room = room_left procs _ _ _ (todo_of c.in-Some.last) top c.drop_top.ensures c.loop-last.invariant.room;
    }

pub loop-last-preserved-then-last : goal.loop-last-preserved-then-last
loop-last-preserved-then-last c =
    let procs = map view.procedure c.args.procs.now in
    let top = ap stack_of (sym c.deref.ensures.value) ∙ c.in-Some.ensures in
    record {
      broken = left_loop procs c.loop-last.more _ _ _ _ (todo_of c.in-Some.last) top c.drop_top.ensures c.if-last.true (omega arith) c.loop-last.invariant.broken;
      room = room_left procs _ _ _ (todo_of c.in-Some.last) top c.drop_top.ensures c.loop-last.invariant.room;
    }

pub loop-last-smaller : goal.loop-last-smaller
loop-last-smaller c = fewer _ _ _ (todo_of c.in-Some.last) (ap stack_of (sym c.deref.ensures.value) ∙ c.in-Some.ensures) c.drop_top.ensures

pub loop-last-smaller-then-last : goal.loop-last-smaller-then-last
loop-last-smaller-then-last c = fewer _ _ _ (todo_of c.in-Some.last) (ap stack_of (sym c.deref.ensures.value) ∙ c.in-Some.ensures) c.drop_top.ensures

pub pass-requires : goal.pass-requires
pass-requires c =
    room_left (map view.procedure c.args.procs.now) _ _ _ (todo_of c.in-Some.last) (ap stack_of (sym c.deref.ensures.value) ∙ c.in-Some.ensures) c.drop_top.ensures c.loop-last.invariant.room

pub returns-then-more-eq0 : goal.returns-then-more-eq0
returns-then-more-eq0 c =
    left_last (map view.procedure c.args.procs.now) c.loop-last.more _ _ _ _ _ (todo_of c.in-Some.last) (ap stack_of (sym c.deref.ensures.value) ∙ c.in-Some.ensures) c.drop_top.ensures c.if-last.true c.if-more-eq0.true
    c.pass.ensures c.loop-last.invariant.broken

pub returns : goal.returns
returns c =
    left_all (map view.procedure c.args.procs.now) c.loop-last.more _ _ (ap stack_of (sym c.deref.ensures.value) ∙ c.in_default.ensures) c.loop-last.invariant.broken

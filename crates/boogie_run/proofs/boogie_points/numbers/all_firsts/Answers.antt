use Rattle.std.proofs.Common.{map, arith}
use Rattle.typed_tree.specs.TypedView as view
use Rattle.boogie_run.proofs.FirstSteps.{parted, numbered_on}
use Rattle.boogie_run.proofs.boogie_points.numbers.all_firsts.Goals as goal

pub first_of-requires-clause-ids : goal.first_of-requires-clause-ids
first_of-requires-clause-ids c =
    let h = parted (map view.procedure c.args.procs.now) c.args.procs.now c.loop-counted.counted-index c.counted-item.result c.loop-counted.id c.loop-counted-test.true c.counted-item.is c.loop-counted.invariant.ids in
    omega (arith, h)

pub first_of-requires-clause-places : goal.first_of-requires-clause-places
first_of-requires-clause-places c =
    let k = parted (map view.procedure c.args.procs.now) c.args.procs.now c.loop-counted.counted-index c.counted-item.result c.loop-counted.at c.loop-counted-test.true c.counted-item.is c.loop-counted.invariant.places in
    omega (arith, k)

pub body_assertions-id-requires : goal.body_assertions-id-requires
body_assertions-id-requires c =
    let h = parted (map view.procedure c.args.procs.now) c.args.procs.now c.loop-counted.counted-index c.counted-item.result c.loop-counted.id c.loop-counted-test.true c.counted-item.is c.loop-counted.invariant.ids in
    omega (arith, h)

pub body_points-at-requires : goal.body_points-at-requires
body_points-at-requires c =
    let k = parted (map view.procedure c.args.procs.now) c.args.procs.now c.loop-counted.counted-index c.counted-item.result c.loop-counted.at c.loop-counted-test.true c.counted-item.is c.loop-counted.invariant.places in
    omega (arith, k)

pub overflow_add-id : goal.overflow_add-id
overflow_add-id c =
    let h = parted (map view.procedure c.args.procs.now) c.args.procs.now c.loop-counted.counted-index c.counted-item.result c.loop-counted.id c.loop-counted-test.true c.counted-item.is c.loop-counted.invariant.ids in
    omega (arith, h, c.body_assertions-id.ensures)

pub overflow_add-at : goal.overflow_add-at
overflow_add-at c =
    let k = parted (map view.procedure c.args.procs.now) c.args.procs.now c.loop-counted.counted-index c.counted-item.result c.loop-counted.at c.loop-counted-test.true c.counted-item.is c.loop-counted.invariant.places in
    omega (arith, k, c.body_points-at.ensures)

pub loop-counted-preserved : goal.loop-counted-preserved
loop-counted-preserved c =
    let h = parted (map view.procedure c.args.procs.now) c.args.procs.now c.loop-counted.counted-index c.counted-item.result c.loop-counted.id c.loop-counted-test.true c.counted-item.is c.loop-counted.invariant.ids in
    let k = parted (map view.procedure c.args.procs.now) c.args.procs.now c.loop-counted.counted-index c.counted-item.result c.loop-counted.at c.loop-counted-test.true c.counted-item.is c.loop-counted.invariant.places in
    record {
      ids = omega (arith, h, c.body_assertions-id.ensures);
      places = omega (arith, k, c.body_points-at.ensures);
      numbered =
          numbered_on (map view.procedure c.args.procs.now) c.args.procs.now c.loop-counted.counted-index c.counted-item.result c.loop-counted.id c.loop-counted.at c.body_assertions-id.result
          c.body_points-at.result c.loop-counted.found.items _ _ c.first_of.result c.loop-counted-test.true c.counted-item.is c.in_ok-push.ensures.items c.first_of.ensures c.body_assertions-id.ensures
          c.body_points-at.ensures c.loop-counted.invariant.numbered;
    }

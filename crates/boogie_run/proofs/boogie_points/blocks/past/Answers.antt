use Rattle.std.proofs.Common.{ap, map, arith}
use Rattle.typed_tree.specs.TypedView as view
use Rattle.boogie_run.proofs.PastSteps.{asserted, placed}
use Rattle.boogie_run.proofs.boogie_points.blocks.past.Goals as goal

pub assertions-requires : goal.assertions-requires
assertions-requires c =
    let h = asserted (map view.procedure c.args.procs.now) (view.statement c.args.first.now) (view.statements c.args.rest.now) _ c.args.here.id (ap view.statements c.requires.first) c.requires.room.assertions in
    omega (arith, h)

pub points-requires : goal.points-requires
points-requires c =
    let k = placed (map view.procedure c.args.procs.now) (view.statement c.args.first.now) (view.statements c.args.rest.now) _ c.args.here.at (ap view.statements c.requires.first) c.requires.room.places in
    omega (arith, k)

pub overflow_add-result : goal.overflow_add-result
overflow_add-result c =
    let h = asserted (map view.procedure c.args.procs.now) (view.statement c.args.first.now) (view.statements c.args.rest.now) _ c.args.here.id (ap view.statements c.requires.first) c.requires.room.assertions in
    omega (arith, h, c.assertions.ensures)

pub overflow_add-result-2 : goal.overflow_add-result-2
overflow_add-result-2 c =
    let k = placed (map view.procedure c.args.procs.now) (view.statement c.args.first.now) (view.statements c.args.rest.now) _ c.args.here.at (ap view.statements c.requires.first) c.requires.room.places in
    omega (arith, k, c.points.ensures)

pub returns-clause-room : goal.returns-clause-room
returns-clause-room c =
    let h = asserted (map view.procedure c.args.procs.now) (view.statement c.args.first.now) (view.statements c.args.rest.now) _ c.args.here.id (ap view.statements c.requires.first) c.requires.room.assertions in
    let k = placed (map view.procedure c.args.procs.now) (view.statement c.args.first.now) (view.statements c.args.rest.now) _ c.args.here.at (ap view.statements c.requires.first) c.requires.room.places in
    record { assertions = omega (arith, h, c.assertions.ensures); places = omega (arith, k, c.points.ensures) }

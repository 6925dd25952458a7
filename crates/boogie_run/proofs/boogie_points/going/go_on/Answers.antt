use Rattle.std.proofs.Common.{map}
use Rattle.typed_tree.specs.TypedView as view
use Rattle.boogie_run.proofs.boogie_points.going.go_on.Goals as goal

pub returns-in-Entry-clause-room : goal.returns-in-Entry-clause-room
returns-in-Entry-clause-room c = c.entry_on.ensures.room (map view.procedure c.args.program.now.procs) c.requires.room

use Rattle.std.proofs.lemmas.Result.{MatchResult-weaker}
use Rattle.boogie_tree.specs.View as view
use Rattle.std.proofs.Common.{map}
use Rattle.boogie_types.specs.Ties.Places.{loops_by}
use Rattle.boogie_types.specs.Ties.PlaceViews.{place_outside}
use Rattle.boogie_types.proofs.CallLaws.{call_fault_anywhere}
use Rattle.boogie_types.proofs.statements.call_inside.Goals as goal

pub returns-clause-fault : goal.returns-clause-fault
returns-clause-fault c =
    MatchResult-weaker c.call.result c.call.ensures.fault (λ x h. h)
    (λ f h. call_fault_anywhere (place_outside c.args.place.now) (loops_by c.args.walk.now.loops.items) c.args.names.now c.args.callee.now (map view.expression c.args.arguments.now) f h)

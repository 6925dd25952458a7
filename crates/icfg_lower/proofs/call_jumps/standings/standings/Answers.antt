use Rattle.typed_tree.specs.TypedView.{expression}
use Rattle.icfg_lower.specs.CallJumps.Ties.Stands.{stand_of, argument_stand}
use Rattle.icfg_lower.proofs.ReadSteps.{read_next}
use Rattle.icfg_lower.proofs.call_jumps.standings.standings.Goals as goal

pub loop-arg-preserved : goal.loop-arg-preserved
loop-arg-preserved c =
    read_next expression (argument_stand c.args.frame.now.columns.items) stand_of c.args.args.now c.loop-arg.arg-index c.arg-item.result c.loop-arg.standings.items c.push.new.self.items
    c.in_ok-standing.field-0 c.loop-arg-test.true c.arg-item.is c.loop-arg.invariant c.in_ok-push.ensures.items c.in_ok-standing.ensures

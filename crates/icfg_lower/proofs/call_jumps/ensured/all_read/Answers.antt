use Rattle.std.proofs.Common.{false}
use Rattle.typed_tree.specs.TypedView.{expression}
use Rattle.icfg_lower.specs.CallJumps.Ties.Reading.{read_by}
use Rattle.icfg_lower.specs.CallJumps.Ties.Stands.{stands_of}
use Rattle.icfg_lower.proofs.ReadSteps.{read_next}
use Rattle.icfg_lower.proofs.call_jumps.ensured.all_read.Goals as goal

pub loop-cond-preserved : goal.loop-cond-preserved
loop-cond-preserved c =
    read_next expression (read_by (stands_of c.args.reader.now) false) expression c.args.conds.now c.loop-cond.cond-index c.cond-item.result c.loop-cond.all.items c.push.new.self.items
    c.in_ok-read.field-0 c.loop-cond-test.true c.cond-item.is c.loop-cond.invariant c.in_ok-push.ensures.items c.in_ok-read.ensures

use Rattle.itp_automaton.proofs.SourceLaws.{taken_next}
use Rattle.itp_automaton.proofs.building.copied_preds.Goals as goal

pub loop-pred-preserved : goal.loop-pred-preserved
loop-pred-preserved c =
    taken_next c.args.preds.now c.loop-pred.pred-index c.pred-item.result c.in_ok-copy.field-0 c.loop-pred.copies.items c.push.new.self.items c.loop-pred-test.true
    c.pred-item.is c.in_ok-copy.ensures c.loop-pred.invariant c.in_ok-push.ensures.items

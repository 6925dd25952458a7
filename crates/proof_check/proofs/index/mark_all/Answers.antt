use Rattle.std.proofs.Common.{get_or}
use Rattle.proof_check.proofs.EntryLaws.{same_two, tells_two}
use Rattle.proof_check.proofs.FirstLaws.{same_default}
use Rattle.proof_check.proofs.MarkLaws.{marks_on, marks_end}
use Rattle.proof_check.proofs.index.mark_all.Goals as goal

pub loop-pred-preserved : goal.loop-pred-preserved
loop-pred-preserved c =
    let p = get_or c.args.preds.now c.loop-pred.pred-index 0 in
    marks_on same_two _ _ _ c.args.number c.loop-pred.pred-index p c.args.preds.now tells_two c.loop-pred.invariant c.loop-pred-test.true
    (same_default c.args.preds.now c.loop-pred.pred-index 0 p c.loop-pred-test.true) c.in_ok-insert.ensures.updates.0

pub returns : goal.returns
returns c = marks_end _ _ c.args.number c.loop-pred.pred-index c.args.preds.now c.loop-pred.invariant c.loop-pred-test.false

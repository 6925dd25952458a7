use Rattle.std.proofs.Common.{get_or, refl}
use Rattle.proof_names.specs.ProofSpell.Spelled.{WritesIndex}
use Rattle.proof_names.proofs.ProofSpell.CorrespondLaws.{correspond_more}
use Rattle.proof_names.proofs.proof_spell.nodes.pred_lines.Goals as goal

pub loop-pred-preserved : goal.loop-pred-preserved
loop-pred-preserved c =
    correspond_more WritesIndex c.loop-pred.lines.items c.push.new.self.items c.args.preds.now c.loop-pred.pred-index c.in_ok-index.field-0
    (get_or c.args.preds.now c.loop-pred.pred-index 0) 0 c.loop-pred.invariant c.loop-pred-test.true refl c.in_ok-index.ensures c.in_ok-push.ensures.items

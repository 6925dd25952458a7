use Rattle.proof_form.specs.Lines.{pred, pred_text, is_pred}
use Rattle.proof_form.proofs.ItemLaws.{item_passes, lines_begin, one_line, all_lines}
use Rattle.proof_form.proofs.text_writing.push_preds.Goals as goal

pub push_pred-requires : goal.push_pred-requires
push_pred-requires c = item_passes pred is_pred c.args.preds.now c.loop-i.i c.index-preds-i.result c.requires c.loop-i-test.true c.index-preds-i.is

pub loop-i-init : goal.loop-i-init
loop-i-init c = lines_begin pred pred_text 2 c.args.out.now.items c.args.preds.now

pub loop-i-preserved : goal.loop-i-preserved
loop-i-preserved c =
    one_line pred pred_text 2 c.args.preds.now c.loop-i.i c.index-preds-i.result _ _ _ _ c.loop-i-test.true c.index-preds-i.is c.in_ok-push_pred.ensures c.in_ok-push.ensures.items c.loop-i.invariant

pub returns : goal.returns
returns c = all_lines pred pred_text 2 c.args.preds.now c.loop-i.i _ _ c.loop-i-test.false c.loop-i.invariant

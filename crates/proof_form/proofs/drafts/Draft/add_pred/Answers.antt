use Rattle.proof_form.specs.TextReading.{content_of}
use Rattle.proof_form.proofs.DraftLaws.{pred_too_late}
use Rattle.proof_form.proofs.drafts.Draft.add_pred.Goals as goal

pub returns-then-not-takes_preds : goal.returns-then-not-takes_preds
returns-then-not-takes_preds c = pred_too_late (content_of c.args.self.now) c.args.line.now c.if-not-takes_preds.ensures

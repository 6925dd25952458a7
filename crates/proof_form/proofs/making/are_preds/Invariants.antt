use Rattle.std.proofs.Common.{◌≡◌, drop, map}
use Rattle.std.specs.List.{list_all}
use Rattle.proof_form.specs.Lines.{pred, is_pred}
use Rattle.proof_form.proofs.making.are_preds.Given as goal

abbrev pub invariant-loop-pred : goal.invariant-loop-pred
invariant-loop-pred l = list_all is_pred (map pred (drop l.pred-index l.preds)) ≡ list_all is_pred (map pred l.preds)

use Rattle.std.proofs.Common.{◌≡◌, Some, map}
use Rattle.proof_form.specs.Lines as form
use Rattle.proof_names.specs.Predicates.{pred_named}
use Rattle.proof_names.proofs.PairLaws.{SoFar}
use Rattle.proof_names.proofs.naming.preds_named.Given as goal

abbrev pub invariant-loop-k : goal.invariant-loop-k
invariant-loop-k l = SoFar (λ k line s. pred_named l.icfg line ≡ Some s) (map form.pred l.lines) l.k l.preds.items

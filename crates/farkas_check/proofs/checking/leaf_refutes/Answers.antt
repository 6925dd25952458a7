use Rattle.std.proofs.lemmas.Result.{IfOk-weaker}
use Rattle.farkas_check.proofs.checking.leaf_refutes.Goals as goal

pub returns : goal.returns
returns c =
    IfOk-weaker c.contradicts_tightened.result _ _ (λ yes exact. (λ t. (exact.0 t, tt), λ w. exact.1 w.0)) (rw c.deref.ensures.value at c.contradicts_tightened.ensures)

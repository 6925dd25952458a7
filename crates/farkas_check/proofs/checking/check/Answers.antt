use Rattle.std.proofs.lemmas.Result.{IfOk-weaker}
use Rattle.farkas_check.proofs.Sound.{refuted}
use Rattle.farkas_check.proofs.checking.check.Goals as goal

pub returns-clause-sound : goal.returns-clause-sound
returns-clause-sound c =
    IfOk-weaker c.nodes_refute.result _ _ (λ yes exact is_true point. refuted c.args.proof.now c.args.system.now point (rw c.nodes.ensures.value at (exact.0 is_true))) c.nodes_refute.ensures

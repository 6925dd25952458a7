use Rattle.std.proofs.lemmas.Result.{IfOk-weaker}
use Rattle.proof_reuse.proofs.CommonLaws.{left_of}
use Rattle.proof_reuse.proofs.common.common.Goals as goal

pub returns : goal.returns
returns c = IfOk-weaker c.difference-both.result _ _ (λ d k w. left_of (c.in_ok-others.ensures w) (k w)) c.difference-both.ensures

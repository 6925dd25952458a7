use Rattle.std.proofs.lemmas.Result.{err_from_is_err_and}
use Rattle.boogie_types.proofs.FaultLaws.{fault_in_assert}
use Rattle.boogie_types.proofs.statements.assertion.Goals as goal

pub returns-in_err-claim-clause-fault : goal.returns-in_err-claim-clause-fault
returns-in_err-claim-clause-fault c =
    let p = err_from_is_err_and c.from_residual.result c.from_residual.ensures.1 in
    λ loops before. rw (p.1, p.2) (fault_in_assert _ _ _ _ _ c.in_err-claim.ensures.fault)

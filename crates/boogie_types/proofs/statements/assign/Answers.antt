use Rattle.std.proofs.lemmas.Result.{err_from_is_err_and}
use Rattle.boogie_types.proofs.FaultLaws.{fault_in_assigned, fault_in_value}
use Rattle.boogie_types.proofs.statements.assign.Goals as goal

pub returns-in_err-columns-clause-fault : goal.returns-in_err-columns-clause-fault
returns-in_err-columns-clause-fault c =
    let p = err_from_is_err_and c.from_residual.result c.from_residual.ensures.1 in
    λ loops before. rw (p.1, p.2) (fault_in_assigned _ _ _ _ _ _ c.in_err-columns.ensures.fault)

pub returns-in_err-values-clause-fault : goal.returns-in_err-values-clause-fault
returns-in_err-values-clause-fault c =
    let p = err_from_is_err_and c.from_residual-in_err-values.result c.from_residual-in_err-values.ensures.1 in
    λ loops before. rw (p.1, p.2) (fault_in_value _ _ _ _ _ _ c.in_err-values.ensures.fault)

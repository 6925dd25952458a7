use Rattle.std.proofs.Common.{rules}
use Rattle.boogie_types.proofs.FaultLaws.{fault_in_guard}
use Rattle.boogie_types.proofs.lists.guard.Goals as goal

pub returns-in_err-cond-in-Cond-clause-fault : goal.returns-in_err-cond-in-Cond-clause-fault
returns-in_err-cond-in-Cond-clause-fault c = search (rules, fault_in_guard)

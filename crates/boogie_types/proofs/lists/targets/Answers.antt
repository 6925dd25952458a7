use Rattle.std.proofs.Common.{rules}
use Rattle.boogie_types.proofs.TargetLaws.{fault_of_second}
use Rattle.boogie_types.proofs.lists.targets.Goals as goal

pub returns-in_err-differ-clause-fault : goal.returns-in_err-differ-clause-fault
returns-in_err-differ-clause-fault c = search (rules, fault_of_second)

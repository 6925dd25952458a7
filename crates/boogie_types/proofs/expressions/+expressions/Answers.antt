use Rattle.std.proofs.Common.{rules}
use Rattle.boogie_types.proofs.FaultLaws.{fault_in_old, fault_in_not, fault_in_neg, fault_in_left, fault_in_right, fault_here}
use Rattle.boogie_types.proofs.expressions.+expressions.Goals as goal

pub kind_of-returns-in_err-boxed-in-Old-clause-fault : goal.kind_of-returns-in_err-boxed-in-Old-clause-fault
kind_of-returns-in_err-boxed-in-Old-clause-fault t c = search (rules, fault_in_old)

pub kind_of-returns-in_err-boxed-in-Not-clause-fault : goal.kind_of-returns-in_err-boxed-in-Not-clause-fault
kind_of-returns-in_err-boxed-in-Not-clause-fault t c = search (rules, fault_in_not)

pub kind_of-returns-in_err-boxed-in-Neg-clause-fault : goal.kind_of-returns-in_err-boxed-in-Neg-clause-fault
kind_of-returns-in_err-boxed-in-Neg-clause-fault t c = search (rules, fault_in_neg)

pub kind_of-returns-in_err-left-in-Bin-clause-fault : goal.kind_of-returns-in_err-left-in-Bin-clause-fault
kind_of-returns-in_err-left-in-Bin-clause-fault t c = search (rules, fault_in_left)

pub kind_of-returns-in_err-right-in-Bin-clause-fault : goal.kind_of-returns-in_err-right-in-Bin-clause-fault
kind_of-returns-in_err-right-in-Bin-clause-fault t c = search (rules, fault_in_right)

pub kind_of-returns-in-None-clause-fault : goal.kind_of-returns-in-None-clause-fault
kind_of-returns-in-None-clause-fault t c = search (rules, fault_here)

use Rattle.std.proofs.Common.{ap}
use Rattle.std.proofs.lemmas.Result.{err_from_is_err_and}
use Rattle.boogie_tree.specs.View as view
use Rattle.boogie_types.proofs.SpecificationLaws.{fault_in_requires, fault_in_ensures}
use Rattle.boogie_types.proofs.specifications.add_specification.Goals as goal

pub returns-in_err-condition-in-Requires-clause-fault : goal.returns-in_err-condition-in-Requires-clause-fault
returns-in_err-condition-in-Requires-clause-fault c =
    let p = err_from_is_err_and c.from_residual.result c.from_residual.ensures.1 in
    let v = ap view.specification c.in-Requires.is in
    rw (p.1, p.2, v) (fault_in_requires _ _ (view.invariant c.in-Requires.condition) _ c.in_err-condition-in-Requires.ensures.fault)

pub returns-in_err-condition-in-Ensures-clause-fault : goal.returns-in_err-condition-in-Ensures-clause-fault
returns-in_err-condition-in-Ensures-clause-fault c =
    let p = err_from_is_err_and c.from_residual-in_err-condition-in-Ensures.result c.from_residual-in_err-condition-in-Ensures.ensures.1 in
    let v = ap view.specification c.in-Ensures.is in
    rw (p.1, p.2, v) (fault_in_ensures _ _ (view.invariant c.in-Ensures.condition) _ c.in_err-condition-in-Ensures.ensures.fault)

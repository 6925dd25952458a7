use Rattle.std.proofs.lemmas.Result.{err_from_is_err_and}
use Rattle.boogie_types.proofs.SpecificationLaws.{fault_of_spec}
use Rattle.boogie_types.proofs.specifications.specifications.Goals as goal

pub returns-in_err-add_specification-clause-fault : goal.returns-in_err-add_specification-clause-fault
returns-in_err-add_specification-clause-fault c =
    let p = err_from_is_err_and c.from_residual.result c.from_residual.ensures.1 in
    rw (p.1, p.2) (fault_of_spec _ _ c.args.specs.now _ _ _ c.loop-spec-test.true c.spec-item.is c.in_err-add_specification.ensures.fault)

use Rattle.std.proofs.lemmas.Result.{err_from_is_err_and}
use Rattle.boogie_types.proofs.ModifiedLaws.{fault_of_one, numbers_turn}
use Rattle.boogie_types.proofs.modifies.add_modified.Goals as goal

pub returns-in_err-number-clause-fault : goal.returns-in_err-number-clause-fault
returns-in_err-number-clause-fault c =
    let p = err_from_is_err_and c.from_residual.result c.from_residual.ensures.1 in
    rw (p.1, p.2) (fault_of_one _ _ _ _ _ c.loop-name-test.true c.name-item.is c.in_err-number.ensures.fault)

pub loop-name-preserved : goal.loop-name-preserved
loop-name-preserved c =
    numbers_turn _ _ _ _ c.in_ok-number.number c.loop-name.numbers.items c.push.new.self.items _
    c.loop-name-test.true c.name-item.is c.in_ok-number.ensures.ok c.in_ok-push.ensures.items c.loop-name.invariant

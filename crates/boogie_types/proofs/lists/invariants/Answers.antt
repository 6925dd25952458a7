use Rattle.std.proofs.lemmas.Result.{err_from_is_err_and}
use Rattle.boogie_tree.specs.View as view
use Rattle.typed_tree.specs.TypedView as typed
use Rattle.boogie_types.proofs.EachLaws.{loop_made}
use Rattle.boogie_types.proofs.FaultLaws.{fault_of_invariant}
use Rattle.boogie_types.proofs.lists.invariants.Goals as goal

pub returns-in_err-condition-clause-fault : goal.returns-in_err-condition-clause-fault
returns-in_err-condition-clause-fault c =
    let p = err_from_is_err_and c.from_residual.result c.from_residual.ensures.1 in
    rw (p.1, p.2) (fault_of_invariant _ _ _ _ _ c.loop-each-test.true c.each-item.is c.in_err-condition.ensures.fault)

pub loop-each-preserved : goal.loop-each-preserved
loop-each-preserved c =
    loop_made _ view.invariant typed.invariant _ _ _ c.in_ok-condition.condition c.loop-each.conditions.items c.push.new.self.items _
    c.loop-each-test.true c.each-item.is c.in_ok-condition.ensures.ok c.in_ok-push.ensures.items c.loop-each.invariant

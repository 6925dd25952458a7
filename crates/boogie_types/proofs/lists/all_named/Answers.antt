use Rattle.std.proofs.lemmas.Result.{err_from_is_err_and}
use Rattle.boogie_tree.specs.View as view
use Rattle.typed_tree.specs.TypedView as typed
use Rattle.boogie_types.proofs.EachLaws.{loop_made}
use Rattle.boogie_types.proofs.FaultLaws.{fault_of_member}
use Rattle.boogie_types.proofs.lists.all_named.Goals as goal

pub returns-in_err-value-clause-fault : goal.returns-in_err-value-clause-fault
returns-in_err-value-clause-fault c =
    let p = err_from_is_err_and c.from_residual.result c.from_residual.ensures.1 in
    rw (p.1, p.2) (fault_of_member _ _ _ _ _ c.loop-expr-test.true c.expr-item.is c.in_err-value.ensures.fault)

pub loop-expr-preserved : goal.loop-expr-preserved
loop-expr-preserved c =
    loop_made _ view.expression typed.expression _ _ _ c.in_ok-value.value c.loop-expr.values.items c.push.new.self.items _
    c.loop-expr-test.true c.expr-item.is c.in_ok-value.ensures.ok c.in_ok-push.ensures.items c.loop-expr.invariant

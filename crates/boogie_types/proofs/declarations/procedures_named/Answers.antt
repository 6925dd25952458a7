use Rattle.std.specs.Borrow.{Bor}
use Rattle.std.proofs.lemmas.Result.{err_from_is_err_and}
use Rattle.boogie_tree.specs.declared.tree.Proc.{Proc}
use Rattle.boogie_tree.specs.View as view
use Rattle.typed_tree.specs.TypedView as typed
use Rattle.boogie_types.proofs.EachLaws.{loop_made}
use Rattle.boogie_types.proofs.Refusals.{fault_of_procedure, all_turn}
use Rattle.boogie_types.proofs.declarations.procedures_named.Goals as goal

pub returns-in_err-procedure-clause-fault : goal.returns-in_err-procedure-clause-fault
returns-in_err-procedure-clause-fault c =
    let p = err_from_is_err_and c.from_residual.result c.from_residual.ensures.1 in
    rw (p.1, p.2) (fault_of_procedure _ _ _ _ _ c.loop-listed-test.true c.listed-item.is c.in_err-procedure.ensures.fault)

pub loop-listed-preserved : goal.loop-listed-preserved
loop-listed-preserved c = record {
  made = loop_made _ (λ (p : Bor Proc). view.procedure p.now) typed.procedure _ _ _ c.in_ok-procedure.procedure c.loop-listed.made.items c.push.new.self.items _
      c.loop-listed-test.true c.listed-item.is c.in_ok-procedure.ensures.ok c.in_ok-push.ensures.items c.loop-listed.invariant.made;
  sets = all_turn _ _ _ _ _ c.loop-listed-test.true c.listed-item.is c.in_ok-procedure.ensures.sets c.loop-listed.invariant.sets;
}

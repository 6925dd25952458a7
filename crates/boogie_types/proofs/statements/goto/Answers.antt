use Rattle.std.proofs.Common.{◌++◌, ◌∷◌, [], ap, sym, ◌∙◌, map, Some}
use Rattle.std.proofs.lemmas.Result.{err_from_is_err_and, on_ok_weaker}
use Rattle.typed_tree.specs.TypedView as typed
use Rattle.boogie_types.proofs.FaultLaws.{fault_in_goto}
use Rattle.boogie_types.proofs.Seen.{goto_typed}
use Rattle.boogie_types.proofs.statements.goto.Goals as goal

pub returns-in_err-numbers-clause-fault : goal.returns-in_err-numbers-clause-fault
returns-in_err-numbers-clause-fault c =
    let p = err_from_is_err_and c.from_residual.result c.from_residual.ensures.1 in
    λ loops before. rw (p.1, p.2) (fault_in_goto _ _ _ _ _ c.in_err-numbers.ensures.fault)

pub returns-clause-ok : goal.returns-clause-ok
returns-clause-ok c =
    let h = c.in_ok-numbers.ensures.ok in
    let g = goto_typed c.args.span c.in_ok-numbers.numbers in
    rw h (on_ok_weaker c.put.result (λ e. ap (λ ss. Some ss) (sym (e ∙ ap (λ s. map typed.statement c.args.out.now.items ++ s ∷ []) g))) c.put.ensures.ok)

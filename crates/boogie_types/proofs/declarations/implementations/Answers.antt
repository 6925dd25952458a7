use Rattle.std.proofs.Common.{◌∙◌, ap, subst, map, List}
use Rattle.std.proofs.lemmas.Result.{err_from_is_err_and}
use Rattle.boogie_tree.specs.View as view
use Rattle.boogie_tree.specs.Tree.{Procedure}
use Rattle.boogie_types.specs.BrokenNames.{second_implementation}
use Rattle.boogie_types.specs.Ties.Numbers.{IsTwiceFault}
use Rattle.boogie_types.specs.Ties.Referred.{procedures_by}
use Rattle.boogie_types.specs.Sorted.{implementations_of}
use Rattle.boogie_types.proofs.Refusals.{twice_refused, implementations_refused}
use Rattle.boogie_types.proofs.declarations.implementations.Goals as goal

pub returns-in_err-implementations-clause-fault : goal.returns-in_err-implementations-clause-fault
returns-in_err-implementations-clause-fault c =
    let ds = map view.declaration c.args.decls.now in
    let f = c.in_err-implementations.field-0.0 in
    let p = err_from_is_err_and c.from_residual-in_err-implementations.result c.from_residual-in_err-implementations.ensures.1 in
    rw (p.1, p.2)
    (twice_refused ds (map (λ i. i.name) (implementations_of ds)) second_implementation f
    (subst (λ (ps : List Procedure). IsTwiceFault (map (λ i. i.name) ps) f) c.in_ok-listed.ensures c.in_err-implementations.ensures.fault))

pub returns-in_err-check_all-clause-fault : goal.returns-in_err-check_all-clause-fault
returns-in_err-check_all-clause-fault c =
    let ds = map view.declaration c.args.decls.now in
    let p = err_from_is_err_and c.from_residual-in_err-check_all.result c.from_residual-in_err-check_all.ensures.1 in
    let listed = ap procedures_by (c.deref.ensures.value ∙ c.in_ok-implementations.ensures.procs) ∙ c.in_ok-listed.ensures in
    rw (p.1, p.2) (implementations_refused ds _ _ c.requires.procs_are listed c.in_err-check_all.field-0.0 c.in_err-check_all.ensures.fault)

use Rattle.std.proofs.Common.{◌∙◌, ap, map}
use Rattle.std.proofs.lemmas.Result.{err_from_is_err_and}
use Rattle.boogie_tree.specs.View as view
use Rattle.boogie_types.specs.Ties.Referred.{procedures_by}
use Rattle.boogie_types.proofs.Refusals.{procedures_refused}
use Rattle.boogie_types.proofs.declarations.replace_procedures.Goals as goal

pub returns-in_err-made-clause-fault : goal.returns-in_err-made-clause-fault
returns-in_err-made-clause-fault c =
    let ds = map view.declaration c.args.decls.now in
    let p = err_from_is_err_and c.from_residual-in_err-made.result c.from_residual-in_err-made.ensures.1 in
    rw (p.1, p.2)
    (procedures_refused ds (procedures_by c.deref-3.result.now) (ap procedures_by c.deref-3.ensures.value ∙ c.requires.procs_are) c.in_err-made.field-0.0 c.in_err-made.ensures.fault)

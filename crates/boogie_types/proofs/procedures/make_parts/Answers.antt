use Rattle.std.proofs.Common.{map, subst}
use Rattle.std.proofs.lemmas.Result.{err_from_is_err_and}
use Rattle.boogie_tree.specs.View as view
use Rattle.boogie_types.specs.Ties.Bodies.{body_by}
use Rattle.boogie_types.specs.Ties.Referred.{procedures_by}
use Rattle.boogie_types.specs.Sorted.{modified_in}
use Rattle.boogie_types.specs.Ties.Modified.{AreModifiedFault}
use Rattle.boogie_types.proofs.ProcedureLaws.{modifies_fault, body_fault}
use Rattle.boogie_types.proofs.procedures.make_parts.Goals as goal

pub returns-in_err-modifies-clause-fault : goal.returns-in_err-modifies-clause-fault
returns-in_err-modifies-clause-fault c =
    let p = err_from_is_err_and c.from_residual.result c.from_residual.ensures.1 in
    let d = c.args.declared.now in
    rw (p.1, p.2)
    (modifies_fault (map view.declaration d.decls.now) (view.procedure c.args.procedure.now) d.globals.now c.in_err-modifies.field-0.0 d.globals_are
    (subst (λ ss. AreModifiedFault d.globals.now (modified_in (map view.specification ss)) c.in_err-modifies.field-0.0) c.deref.ensures.value c.in_err-modifies.ensures.fault))

pub returns-in_err-body-clause-fault : goal.returns-in_err-body-clause-fault
returns-in_err-body-clause-fault c =
    let p = err_from_is_err_and c.from_residual-in_err-body.result c.from_residual-in_err-body.ensures.1 in
    let d = c.args.declared.now in
    rw (p.1, p.2)
    (body_fault (map view.declaration d.decls.now) (view.procedure c.args.procedure.now) (body_by c.args.body) d.globals.now (procedures_by d.procs.now) c.args.locals.now c.args.labels.now
    d.globals_are c.requires.procs_are c.requires.locals_are c.requires.labels_are c.in_err-body.field-0.0 c.requires.body_is c.in_err-body.ensures.fault)

use Rattle.std.proofs.Common.{map, ap, sym, ◌∙◌}
use Rattle.std.proofs.lemmas.Result.{err_from_is_err_and}
use Rattle.boogie_tree.specs.View as view
use Rattle.boogie_types.specs.Ties.Numbers.{info_names}
use Rattle.boogie_types.specs.Ties.Bodies.{body_by}
use Rattle.boogie_types.proofs.VariableLaws.{names_of_locals}
use Rattle.boogie_types.proofs.ProcedureLaws.{refused_variable, refused_label, refused_part}
use Rattle.boogie_types.proofs.procedures.procedure.Goals as goal

pub returns-in_err-variables-clause-fault : goal.returns-in_err-variables-clause-fault
returns-in_err-variables-clause-fault c =
    let p = err_from_is_err_and c.from_residual.result c.from_residual.ensures.1 in
    rw (p.1, p.2)
    (refused_variable (map view.declaration c.args.declared.now.decls.now) (view.procedure c.args.procedure.now) (body_by c.args.body) c.in_err-variables.field-0.0 c.requires.body_is c.in_err-variables.ensures.fault)

pub returns-in_err-labels-clause-fault : goal.returns-in_err-labels-clause-fault
returns-in_err-labels-clause-fault c =
    let p = err_from_is_err_and c.from_residual-in_err-labels.result c.from_residual-in_err-labels.ensures.1 in
    rw (p.1, p.2)
    (refused_label (map view.declaration c.args.declared.now.decls.now) (view.procedure c.args.procedure.now) (body_by c.args.body) c.in_err-labels.field-0.0 c.requires.body_is c.in_err-labels.ensures.fault)

pub make_parts-requires-clause-variables_are : goal.make_parts-requires-clause-variables_are
make_parts-requires-clause-variables_are c =
    c.in_ok-variables.ensures.ok ∙ names_of_locals (view.procedure c.args.procedure.now) (body_by c.args.body)
    ∙ ap info_names (sym c.in_ok-locals.ensures ∙ sym c.deref.ensures.value)

pub returns-in_err-parts-clause-fault : goal.returns-in_err-parts-clause-fault
returns-in_err-parts-clause-fault c =
    let p = err_from_is_err_and c.from_residual-in_err-parts.result c.from_residual-in_err-parts.ensures.1 in
    rw (p.1, p.2)
    (refused_part (map view.declaration c.args.declared.now.decls.now) (view.procedure c.args.procedure.now) c.in_err-parts.field-0.0 c.in_err-parts.ensures.fault)

use Rattle.std.proofs.Common.{◌∙◌, ap, map}
use Rattle.std.proofs.lemmas.Result.{err_from_is_err_and}
use Rattle.boogie_tree.specs.View as view
use Rattle.boogie_types.specs.Ties.Referred.{expressions_by}
use Rattle.boogie_types.proofs.Refusals.{axioms_refused}
use Rattle.boogie_types.proofs.declarations.replace_axioms.Goals as goal

pub returns-in_err-axioms-clause-fault : goal.returns-in_err-axioms-clause-fault
returns-in_err-axioms-clause-fault c =
    let ds = map view.declaration c.args.decls.now in
    let p = err_from_is_err_and c.from_residual-in_err-axioms.result c.from_residual-in_err-axioms.ensures.1 in
    rw (p.1, p.2)
    (axioms_refused ds _ _ (c.deref.ensures.value ∙ c.requires.globals_are) (ap expressions_by c.deref-2.ensures.value ∙ c.in_ok-listed.ensures)
    c.in_err-axioms.field-0.0 c.in_err-axioms.ensures.fault)

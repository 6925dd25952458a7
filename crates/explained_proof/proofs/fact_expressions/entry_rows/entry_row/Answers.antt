use Rattle.std.proofs.Common.{◌∙◌, FitsSigned, Err, rules, ap}
use Rattle.std.specs.Int.{w128}
use Rattle.std.proofs.lemmas.Int.{to_z-of_z}
use Rattle.explained_proof.specs.RowExpressions.Views as scopes
use Rattle.explained_proof.proofs.FactExpressions.EntryLaws.{entry_made, entry_past}
use Rattle.explained_proof.proofs.fact_expressions.entry_rows.entry_row.Goals as goal

pub returns-in-Ok : goal.returns-in-Ok
returns-in-Ok c =
    let f : FitsSigned w128 c.bound.result = search rules in
    entry_made (scopes.scope c.args.scope.now) c.args.given.now c.terms.result.now c.deref.result.now c.bound.result c.in-Ok.row c.in_ok-tighten-in-Ok.field-0
    c.terms.ensures.value (c.deref.ensures.value ∙ c.in_ok-terms.ensures) c.bound.ensures
    (simp to_z-of_z at c.in-Ok.ensures.fits) (simp to_z-of_z at c.in-Ok.ensures.value) c.in_ok-tighten-in-Ok.ensures.value

pub returns-in-Err-Past : goal.returns-in-Err-Past
returns-in-Err-Past c =
    let f : FitsSigned w128 c.bound.result = search rules in
    entry_past (scopes.scope c.args.scope.now) c.args.given.now c.terms.result.now c.deref.result.now c.bound.result c.terms.ensures.valid
    c.terms.ensures.value (c.deref.ensures.value ∙ c.in_ok-terms.ensures) c.bound.ensures
    (simp to_z-of_z at (c.in-Err-Past.ensures.past (ap Err c.in-Err-Past.field-0-is)))

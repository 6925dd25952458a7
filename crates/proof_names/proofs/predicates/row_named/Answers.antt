use Rattle.std.proofs.Common.{◌≡◌, ◌∙◌, Err, FitsSigned, ap, sym, rules}
use Rattle.std.specs.Int.{w128}
use Rattle.std.specs.Option.{option_map}
use Rattle.std.proofs.lemmas.Int.{to_z-of_z}
use Rattle.lin_rows.specs.declared.types.RowFault.TheVariants.{Past}
use Rattle.proof_names.specs.Predicates.{terms_ascend}
use Rattle.proof_names.proofs.AtomLaws.{row_named_is, row_fits}
use Rattle.proof_names.proofs.predicates.row_named.Goals as goal

pub returns-in-Ok : goal.returns-in-Ok
returns-in-Ok c =
    let f : FitsSigned w128 c.in-Some.bound = search rules in
    row_named_is c.args.frame.now c.args.bound.now c.args.terms.now c.in-Some-2.terms.items c.in-Some.bound c.in-Ok.row c.requires
    (sym (ap (option_map (λ v. v.items)) c.in-Some-2.is) ∙ c.in_ok-terms.ensures) c.in-Some.ensures
    (sym (ap terms_ascend c.deref.ensures.value) ∙ sym c.ascend.ensures ∙ c.if-not-ascend.false)
    (rw (to_z-of_z, c.deref-2.ensures.value) at c.in-Ok.ensures.value)

pub returns-in-Err-Past : goal.returns-in-Err-Past
returns-in-Err-Past c =
    let f : FitsSigned w128 c.in-Some.bound = search rules in
    let p : c.row.result ≡ Err Past = cc in
    absurd (c.row.ensures.past p
    (rw (to_z-of_z, c.deref-2.ensures.value)
    (row_fits c.args.frame.now c.args.bound.now c.args.terms.now c.in-Some-2.terms.items c.in-Some.bound c.requires
    (sym (ap (option_map (λ v. v.items)) c.in-Some-2.is) ∙ c.in_ok-terms.ensures) c.in-Some.ensures
    (sym (ap terms_ascend c.deref.ensures.value) ∙ sym c.ascend.ensures ∙ c.if-not-ascend.false))))

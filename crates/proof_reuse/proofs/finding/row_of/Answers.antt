use Rattle.std.proofs.Common.{◌≡◌, ◌∙◌, Err, FitsSigned, length, sym, ap, rules}
use Rattle.std.specs.Int.{w128}
use Rattle.std.proofs.lemmas.Int.{to_z-of_z}
use Rattle.lin_rows.specs.declared.types.RowFault.TheVariants.{Past}
use Rattle.proof_reuse.proofs.RowLaws.{row_kept, row_lost, row_past}
use Rattle.proof_reuse.proofs.finding.row_of.Goals as goal

pub returns-in-Err-Past : goal.returns-in-Err-Past
returns-in-Err-Past c =
    let f : FitsSigned w128 c.args.bound = search rules in
    let p : c.row.result ≡ Err Past = cc in
    row_past c.args.terms.now c.args.bound c.requires.terms c.requires.bound (λ s. c.row.ensures.past p (rw to_z-of_z s))

pub returns-then-terms : goal.returns-then-terms
returns-then-terms c =
    let f : FitsSigned w128 c.args.bound = search rules in
    row_lost c.args.terms.now c.args.bound c.in-Ok.row (rw to_z-of_z at c.in-Ok.ensures.value) (λ k. c.if-terms.true (ap length c.terms.ensures.value ∙ k))

pub returns : goal.returns
returns c =
    let f : FitsSigned w128 c.args.bound = search rules in
    row_kept c.args.terms.now c.args.bound c.in-Ok.row (rw to_z-of_z at c.in-Ok.ensures.value) (ap length (sym c.terms.ensures.value) ∙ c.if-terms.false)

use Rattle.std.proofs.Common.{rules, ◌≡◌, true, Err, ℕ, ℤ, List, ◌∙◌, sym, ap, subst, FitsSigned}
use Rattle.std.specs.Int.{w128}
use Rattle.std.proofs.lemmas.Int.{to_z-of_z}
use Rattle.math_facts.specs.Fits.{Fits}
use Rattle.lin_rows.specs.Rows.{LinearRow}
use Rattle.lin_rows.specs.Sums.{row_of, SumsFit}
use Rattle.cond_jumps.specs.Conjunctions.{row_fits}
use Rattle.cond_jumps.specs.LongView.{long}
use Rattle.cond_jumps.specs.Ties.Totals.{terms_of}
use Rattle.cond_jumps.proofs.TotalLemmas.{not_true, totals_fit_so, totals_row, totals_sums_fit, row_fits_back}
use Rattle.cond_jumps.proofs.totals.row_from.Goals as goal

pub returns-in_err-sums-clause-too_big : goal.returns-in_err-sums-clause-too_big
returns-in_err-sums-clause-too_big c = λ e.
    not_true (row_fits (row_of (terms_of c.args.terms.now) c.args.kind (long c.args.bound.now)))
    (λ t. c.in_err-sums.ensures.too_big (let h = rw e at c.from_residual.ensures.1 in ap Err (sym h)) (totals_fit_so (terms_of c.args.terms.now) c.args.kind (long c.args.bound.now) t))

pub returns-in-Ok-clause-ok : goal.returns-in-Ok-clause-ok
returns-in-Ok-clause-ok c =
    let f : FitsSigned w128 c.in-Some.bound = search rules in
    let v = simp to_z-of_z at c.in-Ok.ensures.value in
    let w = ap (λ (l : List (ℕ × ℤ)). row_of l c.args.kind c.in-Some.bound) c.as_slice.ensures.value in
    let b = ap (row_of c.in_ok-sums.sums.items c.args.kind) c.in-Some.ensures.1 in
    v ∙ w ∙ b ∙ totals_row (terms_of c.args.terms.now) c.in_ok-sums.sums.items c.args.kind (long c.args.bound.now) c.in_ok-sums.ensures.ok

pub returns-in-Ok-clause-fits : goal.returns-in-Ok-clause-fits
returns-in-Ok-clause-fits c = λ e.
    let v = returns-in-Ok-clause-ok c in
    let P : LinearRow → Type 0 = λ r. row_fits r ≡ true in
    subst P v (row_fits_back c.in-Ok.made c.in-Ok.ensures.valid)

pub returns-in-Err-Past-clause-too_big : goal.returns-in-Err-Past-clause-too_big
returns-in-Err-Past-clause-too_big c = λ e.
    let f : FitsSigned w128 c.in-Some.bound = search rules in
    let b : Fits c.in-Some.bound = subst Fits (sym c.in-Some.ensures.1) c.in-Some.ensures.0 in
    let h : SumsFit c.in_ok-sums.sums.items c.in-Some.bound =
    totals_sums_fit (terms_of c.args.terms.now) c.in_ok-sums.sums.items c.in-Some.bound c.in_ok-sums.ensures.ok b in
    let P : List (ℕ × ℤ) → Type 0 = λ l. SumsFit l c.in-Some.bound in
    let k = simp to_z-of_z at (c.in-Err-Past.ensures.past (ap Err c.in-Err-Past.field-0-is)) in
    absurd (k (subst P (sym c.as_slice.ensures.value) h))

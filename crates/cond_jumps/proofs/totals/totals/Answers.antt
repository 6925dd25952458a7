use Rattle.std.proofs.Common.{rules, ◌≡◌, ◌≤◌, ◌<◌, ◌+◌, ◌∙◌, sym, ap, subst, arith, FitsSigned, ℕ}
use Rattle.std.specs.Int.{w128}
use Rattle.std.proofs.lemmas.Int.{to_z-of_z}
use Rattle.math_facts.specs.Fits.{Fits}
use Rattle.cond_jumps.specs.Ties.Totals.{terms_of}
use Rattle.cond_jumps.proofs.TotalLemmas.{least_from, totals_step, totals_end}
use Rattle.cond_jumps.proofs.totals.totals.Goals as goal

pub loop-column-smaller : goal.loop-column-smaller
loop-column-smaller c =
    let l : c.loop-column.low ≤ c.in-Some.column = least_from c.loop-column.low c.in-Some.column (terms_of c.args.terms.now) (sym c.least.ensures ∙ c.in-Some.is) in
    let r : c.in-Some.column < 4294967296 = search rules in
    omega arith

pub loop-column-preserved : goal.loop-column-preserved
loop-column-preserved c =
    let r : c.in-Some.column < 4294967296 = search rules in
    let f : FitsSigned w128 c.in-Some-fit.sum = search rules in
    let i = simp to_z-of_z at c.in_ok-push.ensures.items in
    let j : c.from-low.result + 1 ≡ c.in-Some.column + 1 = ap (λ (n : ℕ). n + 1) c.from-low.ensures in
    let v = c.in-Some-fit.ensures.1 ∙ c.in_ok-total.ensures in
    rw (i, j) (totals_step (terms_of c.args.terms.now) c.loop-column.sums.items c.loop-column.low c.in-Some.column c.in-Some-fit.sum c.loop-column.invariant
    (sym c.least.ensures ∙ c.in-Some.is) r v (subst Fits (sym c.in-Some-fit.ensures.1) c.in-Some-fit.ensures.0))

pub returns-clause-ok : goal.returns-clause-ok
returns-clause-ok c = totals_end (terms_of c.args.terms.now) c.loop-column.sums.items c.loop-column.low c.loop-column.invariant (sym c.least.ensures ∙ c.in_default.is)

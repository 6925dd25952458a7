use Rattle.std.proofs.Common.{[], ◌∷◌, ◌++◌, Err, refl, sym, ap, ◌∙◌, FitsSigned}
use Rattle.std.specs.Int.{w128}
use Rattle.std.proofs.lemmas.Int.{to_z-of_z}
use Rattle.cond_jumps.proofs.comparisons.push_opposite.Goals as goal

pub returns-clause-rows : goal.returns-clause-rows
returns-clause-rows c =
    let f : FitsSigned w128 c.args.k = c.ranges.k in
    let r = simp to_z-of_z at c.in_ok-row.ensures.ok in
    c.in_ok-push.ensures.items ∙ (λ j. c.in_ok-append.ensures.items j ++ r j ∷ [])

pub returns-clause-fits : goal.returns-clause-fits
returns-clause-fits c =
    let f : FitsSigned w128 c.args.k = c.ranges.k in
    simp to_z-of_z at (c.in_ok-row.ensures.fits refl)

pub returns-in_err-row-clause-too_big : goal.returns-in_err-row-clause-too_big
returns-in_err-row-clause-too_big c = λ e.
    let f : FitsSigned w128 c.args.k = c.ranges.k in
    let h = rw e at c.from_residual-in_err-row.ensures.1 in
    simp to_z-of_z at (c.in_err-row.ensures.too_big (ap Err (sym h)))

use Rattle.std.proofs.Common.{ap, ◌++◌, Err, refl, FitsSigned}
use Rattle.std.specs.Int.{w128}
use Rattle.std.proofs.lemmas.Int.{to_z-of_z}
use Rattle.cond_jumps.specs.Ties.SumView.{sum_of}
use Rattle.cond_jumps.specs.CompareView.{compared_row, compared_list}
use Rattle.cond_jumps.proofs.ListAnswers.{list_handed_on, compared_fits, compared_too_big, compared_list_is}
use Rattle.cond_jumps.proofs.comparisons.compared.Goals as goal

pub returns-in_err-push_difference : goal.returns-in_err-push_difference
returns-in_err-push_difference c =
    let f : FitsSigned w128 c.args.k = c.ranges.k in
    let s = compared_row c.args.kind c.args.k (sum_of c.args.a) (sum_of c.args.b) in
    let h = simp to_z-of_z at c.in_err-push_difference.ensures.too_big in
    list_handed_on (compared_list s (sum_of c.args.a) (sum_of c.args.b))
    c.from_residual.result c.in_err-push_difference.field-0.0 c.from_residual.ensures.1
    (λ t. compared_too_big s (sum_of c.args.a) (sum_of c.args.b) (h (ap Err t)))

pub returns : goal.returns
returns c =
    let f : FitsSigned w128 c.args.k = c.ranges.k in
    let s = compared_row c.args.kind c.args.k (sum_of c.args.a) (sum_of c.args.b) in
    let rows = simp to_z-of_z at c.in_ok-push_difference.ensures.rows in
    let fits = simp to_z-of_z at c.in_ok-push_difference.ensures.fits in (
      compared_list_is c.in_ok-single.field-0.items _ s s c.args.a c.args.b (c.args.a.rows.items ++ c.args.b.rows.items) c.in_ok-single.ensures rows refl refl c.in_ok-push_difference.ensures.helpers,
      compared_fits s (sum_of c.args.a) (sum_of c.args.b) c.requires.first c.requires.second fits,
    )

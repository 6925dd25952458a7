use Rattle.std.proofs.Common.{[], ◌∷◌, codes}
use Rattle.std.specs.Prelude.{map}
use Rattle.std.proofs.lemmas.Result.{err_from_is_err_and}
use Rattle.proof_form.specs.Refutations.{plain_refutation_node}
use Rattle.rank_lasso.specs.Lines.{proof_kind, end_kind, GoesOn}
use Rattle.rank_lasso.proofs.KindLaws.{bounded_on, fault_here, behind_terms, behind_bound, behind_falls, behind_bounded, behind_end, rank_read}
use Rattle.rank_lasso.proofs.ranking_lines.rank_ending.Goals as goal

pub returns-in_err-falls-clause-fault : goal.returns-in_err-falls-clause-fault
returns-in_err-falls-clause-fault c =
    let p = err_from_is_err_and c.from_residual-in_err-falls.result c.from_residual-in_err-falls.ensures.1 in
    let e = c.in_err-falls.field-0.0 in
    let terms = c.in_ok-terms.ensures.read in
    let bound = c.in_ok-bound.ensures.read in
    rw (p.1, p.2) (behind_terms c.args.text.now c.in_ok-terms.rest.now c.in_ok-terms.terms.items e terms.0 terms.1
    (behind_bound c.in_ok-terms.rest.now c.in_ok-bound.rest.now c.in_ok-bound.bound e bound.0 bound.1
    (fault_here GoesOn 6 (proof_kind (codes "falls")) bounded_on c.in_ok-bound.rest.now e c.in_err-falls.ensures.fault)))

pub returns-in_err-bounded-clause-fault : goal.returns-in_err-bounded-clause-fault
returns-in_err-bounded-clause-fault c =
    let p = err_from_is_err_and c.from_residual-in_err-bounded.result c.from_residual-in_err-bounded.ensures.1 in
    let e = c.in_err-bounded.field-0.0 in
    let terms = c.in_ok-terms.ensures.read in
    let bound = c.in_ok-bound.ensures.read in
    let falling = c.in_ok-falls.ensures.read in
    rw (p.1, p.2) (behind_terms c.args.text.now c.in_ok-terms.rest.now c.in_ok-terms.terms.items e terms.0 terms.1
    (behind_bound c.in_ok-terms.rest.now c.in_ok-bound.rest.now c.in_ok-bound.bound e bound.0 bound.1
    (behind_falls c.in_ok-bound.rest.now c.in_ok-falls.rest.now (map plain_refutation_node c.in_ok-falls.falls.items) e falling.0 falling.1
    (fault_here GoesOn 7 (proof_kind (codes "bounded")) (end_kind ∷ []) c.in_ok-falls.rest.now e c.in_err-bounded.ensures.fault))))

pub returns-in_err-rest-clause-fault : goal.returns-in_err-rest-clause-fault
returns-in_err-rest-clause-fault c =
    let p = err_from_is_err_and c.from_residual-in_err-rest.result c.from_residual-in_err-rest.ensures.1 in
    let e = c.in_err-rest.field-0.0 in
    let terms = c.in_ok-terms.ensures.read in
    let bound = c.in_ok-bound.ensures.read in
    let falling = c.in_ok-falls.ensures.read in
    let above = c.in_ok-bounded.ensures.read in
    rw (p.1, p.2) (behind_terms c.args.text.now c.in_ok-terms.rest.now c.in_ok-terms.terms.items e terms.0 terms.1
    (behind_bound c.in_ok-terms.rest.now c.in_ok-bound.rest.now c.in_ok-bound.bound e bound.0 bound.1
    (behind_falls c.in_ok-bound.rest.now c.in_ok-falls.rest.now (map plain_refutation_node c.in_ok-falls.falls.items) e falling.0 falling.1
    (behind_bounded c.in_ok-falls.rest.now c.in_ok-bounded.rest.now (map plain_refutation_node c.in_ok-bounded.bounded.items) e above.0 above.1
    (fault_here GoesOn 8 end_kind [] c.in_ok-bounded.rest.now e c.in_err-rest.ensures.fault)))))

pub returns-in_err-text_ends-clause-fault : goal.returns-in_err-text_ends-clause-fault
returns-in_err-text_ends-clause-fault c =
    let p = err_from_is_err_and c.from_residual-in_err-text_ends.result c.from_residual-in_err-text_ends.ensures.1 in
    let e = c.in_err-text_ends.field-0.0 in
    let terms = c.in_ok-terms.ensures.read in
    let bound = c.in_ok-bound.ensures.read in
    let falling = c.in_ok-falls.ensures.read in
    let above = c.in_ok-bounded.ensures.read in
    rw (p.1, p.2) (behind_terms c.args.text.now c.in_ok-terms.rest.now c.in_ok-terms.terms.items e terms.0 terms.1
    (behind_bound c.in_ok-terms.rest.now c.in_ok-bound.rest.now c.in_ok-bound.bound e bound.0 bound.1
    (behind_falls c.in_ok-bound.rest.now c.in_ok-falls.rest.now (map plain_refutation_node c.in_ok-falls.falls.items) e falling.0 falling.1
    (behind_bounded c.in_ok-falls.rest.now c.in_ok-bounded.rest.now (map plain_refutation_node c.in_ok-bounded.bounded.items) e above.0 above.1
    (behind_end 8 c.in_ok-bounded.rest.now c.in_ok-rest.rest.now e c.in_ok-rest.ensures.read c.in_err-text_ends.ensures.fault)))))

pub returns-clause-read : goal.returns-clause-read
returns-clause-read c =
    rank_read c.args.text.now c.in_ok-terms.rest.now c.in_ok-bound.rest.now c.in_ok-falls.rest.now c.in_ok-bounded.rest.now c.in_ok-rest.rest.now c.in_ok-terms.terms.items c.in_ok-bound.bound
    (map plain_refutation_node c.in_ok-falls.falls.items) (map plain_refutation_node c.in_ok-bounded.bounded.items)
    c.in_ok-terms.ensures.read c.in_ok-bound.ensures.read c.in_ok-falls.ensures.read c.in_ok-bounded.ensures.read c.in_ok-rest.ensures.read c.in_ok-text_ends.ensures.read

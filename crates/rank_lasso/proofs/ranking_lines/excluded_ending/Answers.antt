use Rattle.std.proofs.Common.{[], ◌∷◌, codes, refl}
use Rattle.std.specs.Prelude.{map}
use Rattle.std.proofs.lemmas.Result.{err_from_is_err_and}
use Rattle.proof_form.specs.Refutations.{plain_refutation_node, refutation_text}
use Rattle.rank_lasso.specs.Lines.{proof_kind, end_kind, GoesOn}
use Rattle.rank_lasso.proofs.KindLaws.{fault_behind, behind_end}
use Rattle.rank_lasso.proofs.ranking_lines.excluded_ending.Goals as goal

pub returns-in_err-text_ends-clause-fault : goal.returns-in_err-text_ends-clause-fault
returns-in_err-text_ends-clause-fault c =
    let p = err_from_is_err_and c.from_residual-in_err-text_ends.result c.from_residual-in_err-text_ends.ensures.1 in
    let e = c.in_err-text_ends.field-0.0 in
    let nodes = map plain_refutation_node c.in_ok-nodes.nodes.items in
    let read = c.in_ok-nodes.ensures.read in
    rw (p.1, p.2) (fault_behind GoesOn 4 (proof_kind (codes "excluded")) (end_kind ∷ []) c.args.text.now (refutation_text nodes) c.in_ok-nodes.rest.now e (nodes, read.0, refl) read.1
    (behind_end 5 c.in_ok-nodes.rest.now c.in_ok-rest.rest.now e c.in_ok-rest.ensures.read c.in_err-text_ends.ensures.fault))

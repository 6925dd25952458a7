use Rattle.std.proofs.lemmas.Result.{err_from_is_err_and}
use Rattle.typed_tree.proofs.Parts.{whole_fault}
use Rattle.typed_tree.proofs.Broken.{whole_only}
use Rattle.typed_tree.proofs.typing.expression_type.Goals as goal

pub returns-in_err-part-clause-fault : goal.returns-in_err-part-clause-fault
returns-in_err-part-clause-fault c =
    let p = err_from_is_err_and c.from_residual.result c.from_residual.ensures.1 in
    rw (p.1, p.2) (whole_fault _ _ _ c.in_err-part.ensures)

pub returns-in_err-part-clause-only : goal.returns-in_err-part-clause-only
returns-in_err-part-clause-only c _ =
    let p = err_from_is_err_and c.from_residual.result c.from_residual.ensures.1 in
    rw (p.1, p.2) (whole_only _ _ _ c.in_err-part.ensures)

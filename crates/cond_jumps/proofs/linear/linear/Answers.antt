use Rattle.std.proofs.lemmas.Result.{err_from_is_err_and}
use Rattle.cond_jumps.proofs.linear.linear.Goals as goal

pub returns-in_err-sum : goal.returns-in_err-sum
returns-in_err-sum c =
    let p = err_from_is_err_and c.from_residual.result c.from_residual.ensures.1 in
    rw (p.1, p.2) c.in_err-sum.ensures

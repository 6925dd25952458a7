use Rattle.nwa_reduce.specs.Ties.Rows.{row_of}
use Rattle.nwa_reduce.proofs.TrimLemmas.{ends_by}
use Rattle.nwa_reduce.proofs.trimming.ending.Goals as goal

pub returns : goal.returns
returns c =
    ends_by c.args.nwa.now (λ q. row_of c.in_ok-steps.steps.rows.items q) _ c.in_ok-found.found c.finals.ensures
    c.in_ok-found.ensures c.in_ok-steps.ensures

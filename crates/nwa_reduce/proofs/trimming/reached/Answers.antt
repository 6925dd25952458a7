use Rattle.std.proofs.Common.{ℕ, [], ◌∷◌, ap}
use Rattle.nwa_reduce.specs.Ties.Rows.{row_of}
use Rattle.nwa_reduce.proofs.TrimLemmas.{reached_by}
use Rattle.nwa_reduce.proofs.trimming.reached.Goals as goal

pub returns : goal.returns
returns c =
    reached_by c.args.nwa.now (λ q. row_of c.in_ok-steps.steps.rows.items q) _ c.in_ok-found.found (ap (λ (n : ℕ). n ∷ []) c.start.ensures)
    c.in_ok-found.ensures c.in_ok-steps.ensures

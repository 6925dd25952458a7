use Rattle.std.proofs.Common.{ℕ, ◌<◌}
use Rattle.proof_check.specs.Ties.Firsts.{HasAt}
use Rattle.proof_check.specs.Checks.{IsCovered}
use Rattle.proof_check.proofs.covering.first_uncovered.Given as goal

abbrev pub invariant-loop-n : goal.invariant-loop-n
invariant-loop-n l = (j : ℕ) → j < l.n → HasAt (IsCovered l.icfg l.plan) l.plan.nodes j

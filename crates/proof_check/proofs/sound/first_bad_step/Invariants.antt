use Rattle.std.proofs.Common.{ℕ, ◌<◌}
use Rattle.proof_check.specs.Ties.Firsts.{HasAt}
use Rattle.proof_check.specs.Steps.{IsSound}
use Rattle.proof_check.proofs.sound.first_bad_step.Given as goal

abbrev pub invariant-loop-k : goal.invariant-loop-k
invariant-loop-k l = (j : ℕ) → j < l.k → HasAt (λ k t. IsSound l.icfg l.plan t) l.plan.steps j

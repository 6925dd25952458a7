use Rattle.std.proofs.Common.{ℕ, ◌<◌}
use Rattle.proof_check.specs.Ties.Firsts.{HasAt}
use Rattle.proof_check.specs.Proves.{IsShown}
use Rattle.proof_check.proofs.refuting.first_bad_triple.Given as goal

abbrev pub invariant-loop-k : goal.invariant-loop-k
invariant-loop-k l = (j : ℕ) → j < l.k → HasAt (λ k t. IsShown l.icfg t) l.triples j

use Rattle.std.proofs.Common.{ℕ, ◌<◌, map}
use Rattle.proof_names.specs.Outlines.{node}
use Rattle.proof_check.specs.Ties.Firsts.{HasAt}
use Rattle.proof_check.specs.Proves.{IsStart}
use Rattle.proof_check.proofs.places.has_start.Given as goal

abbrev pub invariant-loop-n : goal.invariant-loop-n
invariant-loop-n l = (j : ℕ) → j < l.n → HasAt (λ n x. IsStart n x → ⊥) (map node l.nodes) j

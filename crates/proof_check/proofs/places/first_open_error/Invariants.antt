use Rattle.std.proofs.Common.{ℕ, ◌<◌, map}
use Rattle.proof_names.specs.Outlines.{node}
use Rattle.proof_check.specs.Ties.Firsts.{HasAt}
use Rattle.proof_check.specs.Proves.{ErrorIsFalse}
use Rattle.proof_check.proofs.places.first_open_error.Given as goal

abbrev pub invariant-loop-n : goal.invariant-loop-n
invariant-loop-n l = (j : ℕ) → j < l.n → HasAt (λ n x. ErrorIsFalse l.nwa x) (map node l.nodes) j

use Rattle.std.proofs.Common.{◌≡◌, ℕ, Some, take}
use Rattle.nwa_reduce.specs.Ties.Naming.{named}
use Rattle.nwa_reduce.proofs.CollectLemmas.{IsCollected}
use Rattle.nwa_reduce.proofs.imaging.named_states.Given as goal

abbrev pub invariant-loop-state : goal.invariant-loop-state
invariant-loop-state l = IsCollected (λ (q y : ℕ). named l.names.of.items q ≡ Some y) (take l.state-index l.states) l.set.keys

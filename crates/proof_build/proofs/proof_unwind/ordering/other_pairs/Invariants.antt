use Rattle.std.proofs.Common.{◌≡◌, ◌+◌, ◌<◌, ℕ, length}
use Rattle.proof_build.specs.ProofUnwind.Unwindings.{node_place_in}
use Rattle.proof_build.specs.ProofUnwind.Renumbering.{pair_at}
use Rattle.proof_build.specs.ProofUnwind.Spots.{nodes_of}
use Rattle.proof_build.proofs.proof_unwind.ordering.other_pairs.Given as goal

abbrev pub invariant-loop-number : goal.invariant-loop-number
invariant-loop-number l = record {
  long : length l.pairs.items + 1 ≡ l.number;
  at : (k : ℕ) → k < length l.pairs.items → pair_at l.pairs.items k ≡ (node_place_in (nodes_of l.spots) (k + 1), k + 1);
}

use Rattle.std.proofs.Common.{◌≡◌, ◌<◌, ℕ, length, get_or}
use Rattle.proof_build.specs.ProofUnwind.Renumbering.{pair_at}
use Rattle.proof_build.proofs.proof_unwind.ordering.ranked.Given as goal

abbrev pub invariant-loop-rank : goal.invariant-loop-rank
invariant-loop-rank l = record {
  long : length l.ranks.items ≡ length l.order;
  at : (k : ℕ) → k < l.rank → get_or l.ranks.items (pair_at l.order k).1 0 ≡ k;
}

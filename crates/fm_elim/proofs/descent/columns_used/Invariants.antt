use Rattle.std.proofs.Common.{◌≡◌, ℕ, ◌≤◌, ◌<◌, pos, take}
use Rattle.std.specs.List.{AllByRecursion}
use Rattle.fm_elim.specs.Derivations.{at}
use Rattle.fm_elim.proofs.descent.columns_used.Given as goal

abbrev pub invariant-loop-row : goal.invariant-loop-row
invariant-loop-row l = record {
  bound : l.used ≤ l.left;
  free : (k : ℕ) → l.used ≤ k → k < l.left → AllByRecursion (λ r. at k r ≡ pos 0) (take l.row-index l.rows);
}

use Rattle.std.proofs.Common.{◌≡◌, ◌+◌, ◌++◌, map, drop}
use Rattle.rank_lasso.specs.RankingSystem.RankingSystem.{weighted}
use Rattle.rank_lasso.proofs.ranking_system.system.bounds_of.Given as goal

abbrev pub invariant-loop-i : goal.invariant-loop-i
invariant-loop-i l = l.bounds.items ++ weighted (0 + l.i) (map (λ r. r.bound) (drop l.i l.rows)) ≡ weighted 0 (map (λ r. r.bound) l.rows)

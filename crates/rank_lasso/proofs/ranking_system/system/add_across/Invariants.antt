use Rattle.std.proofs.Common.{◌≡◌, ◌+◌, ◌++◌, drop}
use Rattle.rank_lasso.specs.RankingSystem.RankingSystem.{weighted, across}
use Rattle.rank_lasso.proofs.ranking_system.system.add_across.Given as goal

abbrev pub invariant-loop-i : goal.invariant-loop-i
invariant-loop-i l = l.given.items ++ weighted (l.first + l.i) (across l.column (drop l.i l.rows)) ≡ l.initial.given.items ++ weighted l.first (across l.column l.rows)

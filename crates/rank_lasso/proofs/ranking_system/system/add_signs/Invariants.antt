use Rattle.std.proofs.Common.{◌≡◌, ◌+◌, ◌++◌, length, drop}
use Rattle.rank_lasso.specs.RankingSystem.RankingSystem.{signs}
use Rattle.rank_lasso.proofs.ranking_system.system.add_signs.Given as goal

abbrev pub invariant-loop-i : goal.invariant-loop-i
invariant-loop-i l =
    l.made.items ++ signs l.i (length l.rows + l.i) (drop l.i l.rows) ≡ l.initial.made.items ++ signs 0 (length l.rows) l.rows

use Rattle.std.proofs.Common.{◌≡◌, ◌+◌, ◌++◌, pos, map, drop, nat_eq, if◌then◌else◌}
use Rattle.rank_lasso.specs.RankingSystem.RankingSystem.{weighted}
use Rattle.rank_lasso.proofs.ranking_system.system.add_standing.Given as goal

abbrev pub invariant-loop-i : goal.invariant-loop-i
invariant-loop-i l =
    l.given.items ++ weighted (l.first + l.i) (map (λ v. if nat_eq v l.column then l.factor else pos 0) (drop l.i l.versions))
    ≡ l.initial.given.items ++ weighted l.first (map (λ v. if nat_eq v l.column then l.factor else pos 0) l.versions)

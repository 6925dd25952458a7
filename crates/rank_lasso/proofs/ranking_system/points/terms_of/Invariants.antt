use Rattle.std.proofs.Common.{◌≡◌, ◌++◌, drop}
use Rattle.rank_lasso.proofs.RankingSystem.LeafLaws.{terms_from}
use Rattle.rank_lasso.proofs.ranking_system.points.terms_of.Given as goal

abbrev pub invariant-loop-i : goal.invariant-loop-i
invariant-loop-i l = l.terms.items ++ terms_from l.i (drop l.i l.numbers) ≡ terms_from 0 l.numbers

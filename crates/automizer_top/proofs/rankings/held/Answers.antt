use Rattle.std.proofs.Common.{refl}
use Rattle.rank_lasso.specs.LassoRanks.Lassos.{plain_lasso}
use Rattle.rank_lasso.specs.LassoRanks.Ranks.{plain_ranking}
use Rattle.automizer_top.specs.Rankings.{ranking_holds, ranking_fails}
use Rattle.automizer_top.proofs.rankings.held.Goals as goal

pub returns-in-None : goal.returns-in-None
returns-in-None c =
    let exact = rw c.in-None.is at c.in_ok-check_rank.ensures.exact in
    λ text read. ranking_holds (plain_lasso c.args.lasso.now) (plain_ranking c.args.ranking.now) read c.requires.placed (exact.0 refl) refl

pub returns-in-Some : goal.returns-in-Some
returns-in-Some c = λ text read.
    ranking_fails (plain_lasso c.args.lasso.now) (plain_ranking c.args.ranking.now) c.in-Some.line read c.requires.placed (rw c.in-Some.is at c.in_ok-check_rank.ensures.line) c.rejected.ensures

use Rattle.std.proofs.Common.{Ok, ap, refl, arith}
use Rattle.rank_lasso.specs.LassoRanks.Lassos.{plain_lasso}
use Rattle.rank_lasso.specs.LassoRanks.Ranks.{plain_ranking, IsRankingOver, Ranks}
use Rattle.rank_lasso.specs.LassoRanks.Outcomes.{IsRank, DecideExcludes}
use Rattle.rank_lasso.proofs.OneText.{holding_rankings_can_be_written}
use Rattle.automizer_top.specs.Rankings.{found_ranking, found_none, past_number}
use Rattle.automizer_top.proofs.rankings.sought.Goals as goal

pub write_ranking-requires-clause-numbers : goal.write_ranking-requires-clause-numbers
write_ranking-requires-clause-numbers c =
    let r = plain_ranking c.in-Found.ranking in
    let found : IsRankingOver c.args.icfg.now r × Ranks c.args.icfg.now (plain_lasso c.args.lasso.now) r = rw c.in-Found.is at c.in_ok-ranking.ensures.found in
    record { over = found.0; numbers = holding_rankings_can_be_written c.args.icfg.now (plain_lasso c.args.lasso.now) r found.1 }

pub returns-in_ok-text-in-Found : goal.returns-in_ok-text-in-Found
returns-in_ok-text-in-Found c =
    let r = plain_ranking c.in-Found.ranking in
    let found : IsRankingOver c.args.icfg.now r × Ranks c.args.icfg.now (plain_lasso c.args.lasso.now) r = rw c.in-Found.is at c.in_ok-ranking.ensures.found in
    let first : IsRank r → DecideExcludes c.args.icfg.now (plain_lasso c.args.lasso.now) c.args.depth → ⊥ = rw c.in-Found.is at c.in_ok-ranking.ensures.excludes_first in
    found_ranking (record {
      ranking = r;
      text = c.in_ok-text-in-Found.text.items;
      spelled = c.in_ok-text-in-Found.ensures;
      over = found.0;
      holds = found.1;
      excludes_first = first;
      short = omega arith;
      is = refl;
    })

pub returns-in-NoRank : goal.returns-in-NoRank
returns-in-NoRank c = found_none (c.in_ok-ranking.ensures.none (ap Ok c.in-NoRank.is)) refl

pub returns-in-Number : goal.returns-in-Number
returns-in-Number c = past_number (c.in_ok-ranking.ensures.number (ap Ok c.in-Number.is)) refl

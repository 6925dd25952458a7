use Rattle.rank_lasso.specs.LassoRanks.Lassos.{plain_lasso}
use Rattle.rank_lasso.specs.LassoRanks.Ranks.{plain_ranking}
use Rattle.automizer_top.specs.Rankings.{ReportsRankingText, no_ranking_text, ranks_no_lasso}
use Rattle.automizer_top.proofs.RankingLaws.{fault_told}
use Rattle.automizer_top.proofs.rankings.held_by.Goals as goal

pub returns-in-Err : goal.returns-in-Err
returns-in-Err c =
    fault_told c.in-Err.fault c.faulty.result (ReportsRankingText c.args.icfg.now c.args.text.now) c.faulty.ensures.answer c.faulty.ensures.no_memory
    (λ a no is. no_ranking_text c.in-Err.fault c.in-Err.ensures.fault no is)

pub returns-in-Ok-placed : goal.returns-in-Ok-placed
returns-in-Ok-placed c = c.held.ensures c.args.text.now c.in-Ok.ensures.found

pub returns : goal.returns
returns c =
    fault_told c.in-Err-placed.fault c.faulty-in-Err-placed.result (ReportsRankingText c.args.icfg.now c.args.text.now) c.faulty-in-Err-placed.ensures.answer c.faulty-in-Err-placed.ensures.no_memory
    (λ a no is. ranks_no_lasso (plain_lasso c.in-Ok.read.0) (plain_ranking c.in-Ok.read.1) c.in-Err-placed.fault c.in-Ok.ensures.found c.in-Err-placed.ensures.fault no is)

use Rattle.std.proofs.lemmas.Result.{IfOk-weaker}
use Rattle.rank_lasso.specs.LassoRanks.Lassos.{plain_lasso}
use Rattle.automizer_top.specs.Rankings.{IsLassoText, no_lasso_text, no_lasso, of_lasso}
use Rattle.automizer_top.proofs.rankings.sought_by.Goals as goal

pub returns-in-Err : goal.returns-in-Err
returns-in-Err c = no_lasso_text c.in-Err.fault c.in-Err.ensures.fault c.in_ok-faulty-in-Err.ensures.no_memory c.in_ok-faulty-in-Err.ensures.answer

pub returns-in-Ok-placed : goal.returns-in-Ok-placed
returns-in-Ok-placed c =
    let text : IsLassoText c.args.text.now (plain_lasso c.in-Ok.lasso) = record { writable = c.in-Ok.ensures.found.0; spelled = c.in-Ok.ensures.found.1 } in
    IfOk-weaker c.sought.result _ _ (λ a h. of_lasso (plain_lasso c.in-Ok.lasso) text c.in-Ok-placed.ensures.lasso h) c.sought.ensures

pub returns : goal.returns
returns c =
    let text : IsLassoText c.args.text.now (plain_lasso c.in-Ok.lasso) = record { writable = c.in-Ok.ensures.found.0; spelled = c.in-Ok.ensures.found.1 } in
    no_lasso (plain_lasso c.in-Ok.lasso) c.in-Err-placed.fault text c.in-Err-placed.ensures.fault c.in_ok-faulty-in-Err-placed.ensures.no_memory c.in_ok-faulty-in-Err-placed.ensures.answer

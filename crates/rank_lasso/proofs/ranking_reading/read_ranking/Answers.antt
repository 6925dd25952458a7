use Rattle.std.proofs.lemmas.Result.{err_from_is_err_and}
use Rattle.rank_lasso.specs.LassoRanks.Lassos.{plain_lasso}
use Rattle.rank_lasso.specs.LassoRanks.Ranks.{plain_ranking}
use Rattle.rank_lasso.specs.Ties.Forms.{plain_form}
use Rattle.rank_lasso.proofs.KindLaws.{front_fault_is, ending_fault_is}
use Rattle.rank_lasso.proofs.NamingLaws.{named_may_be_written}
use Rattle.rank_lasso.proofs.OneText.{texts_have_one_ranking, ranking_fault_is_memory, name_fault_is, ranking_read}
use Rattle.rank_lasso.proofs.ranking_reading.read_ranking.Goals as goal

pub returns-in_err-lasso-clause-whole : goal.returns-in_err-lasso-clause-whole
returns-in_err-lasso-clause-whole c =
    let p = err_from_is_err_and c.from_residual.result c.from_residual.ensures.1 in
    let e = c.in_err-lasso.field-0.0 in
    rw (p.1, p.2) (ranking_fault_is_memory c.args.icfg.now c.args.text.now e (front_fault_is c.args.icfg.now c.args.text.now e c.in_err-lasso.ensures.fault))

pub returns-in_err-lasso-clause-fault : goal.returns-in_err-lasso-clause-fault
returns-in_err-lasso-clause-fault c =
    let p = err_from_is_err_and c.from_residual.result c.from_residual.ensures.1 in
    rw (p.1, p.2) (front_fault_is c.args.icfg.now c.args.text.now c.in_err-lasso.field-0.0 c.in_err-lasso.ensures.fault)

pub returns-in_err-form-clause-whole : goal.returns-in_err-form-clause-whole
returns-in_err-form-clause-whole c =
    let p = err_from_is_err_and c.from_residual-in_err-form.result c.from_residual-in_err-form.ensures.1 in
    let e = c.in_err-form.field-0.0 in
    let way = c.in_ok-lasso.ensures.read in
    rw (p.1, p.2) (ranking_fault_is_memory c.args.icfg.now c.args.text.now e
    (ending_fault_is c.args.icfg.now (plain_lasso c.in_ok-lasso.lasso) c.args.text.now c.in_ok-lasso.rest.now e way.0 way.1 c.in_err-form.ensures.fault))

pub returns-in_err-form-clause-fault : goal.returns-in_err-form-clause-fault
returns-in_err-form-clause-fault c =
    let p = err_from_is_err_and c.from_residual-in_err-form.result c.from_residual-in_err-form.ensures.1 in
    let way = c.in_ok-lasso.ensures.read in
    rw (p.1, p.2) (ending_fault_is c.args.icfg.now (plain_lasso c.in_ok-lasso.lasso) c.args.text.now c.in_ok-lasso.rest.now c.in_err-form.field-0.0 way.0 way.1 c.in_err-form.ensures.fault)

pub returns-in_err-ranking-clause-whole : goal.returns-in_err-ranking-clause-whole
returns-in_err-ranking-clause-whole c =
    let p = err_from_is_err_and c.from_residual-in_err-ranking.result c.from_residual-in_err-ranking.ensures.1 in
    let e = c.in_err-ranking.field-0.0 in
    let way = c.in_ok-lasso.ensures.read in
    let l = plain_lasso c.in_ok-lasso.lasso in
    let f = plain_form c.in_ok-form.form in
    let form = c.in_ok-form.ensures.read in
    rw (p.1, p.2) (ranking_fault_is_memory c.args.icfg.now c.args.text.now e
    (name_fault_is c.args.icfg.now l f c.args.text.now e way.0 form.0 (ranking_read l f c.args.text.now c.in_ok-lasso.rest.now way.1 form.1) c.in_err-ranking.ensures.fault))

pub returns-in_err-ranking-clause-fault : goal.returns-in_err-ranking-clause-fault
returns-in_err-ranking-clause-fault c =
    let p = err_from_is_err_and c.from_residual-in_err-ranking.result c.from_residual-in_err-ranking.ensures.1 in
    let way = c.in_ok-lasso.ensures.read in
    let l = plain_lasso c.in_ok-lasso.lasso in
    let f = plain_form c.in_ok-form.form in
    let form = c.in_ok-form.ensures.read in
    rw (p.1, p.2) (name_fault_is c.args.icfg.now l f c.args.text.now c.in_err-ranking.field-0.0 way.0 form.0 (ranking_read l f c.args.text.now c.in_ok-lasso.rest.now way.1 form.1) c.in_err-ranking.ensures.fault)

pub returns-clause-numbers : goal.returns-clause-numbers
returns-clause-numbers c =
    let form = c.in_ok-form.ensures.read in
    named_may_be_written c.args.icfg.now (plain_form c.in_ok-form.form) (plain_ranking c.in_ok-ranking.ranking) form.0 c.in_ok-ranking.ensures.value

pub returns-clause-whole : goal.returns-clause-whole
returns-clause-whole c = λ l r s.
    let way = c.in_ok-lasso.ensures.read in
    let form = c.in_ok-form.ensures.read in
    texts_have_one_ranking c.args.icfg.now c.args.text.now (plain_lasso c.in_ok-lasso.lasso) l (plain_ranking c.in_ok-ranking.ranking) r (record {
      form = plain_form c.in_ok-form.form;
      writable = way.0;
      is_form = form.0;
      spelled = ranking_read (plain_lasso c.in_ok-lasso.lasso) (plain_form c.in_ok-form.form) c.args.text.now c.in_ok-lasso.rest.now way.1 form.1;
      named = c.in_ok-ranking.ensures.value;
    }) s

use Rattle.std.proofs.Common.{IsTrue}
use Rattle.proof_form.specs.Predicates.{term_text}
use Rattle.rank_lasso.specs.RankingText.{is_rank_term}
use Rattle.rank_lasso.proofs.Contents.{terms_begun, terms_are_one}
use Rattle.rank_lasso.proofs.Items.{not_empty, no_item, an_item, one_more, not_items}
use Rattle.rank_lasso.proofs.terms.terms_of.Goals as goal

pub returns-in_default : goal.returns-in_default
returns-in_default c =
    not_items (λ t. IsTrue (is_rank_term t)) term_text terms_begun terms_are_one c.args.bytes.now c.loop-rest.terms.items c.loop-rest.rest.now c.loop-rest.invariant
    (not_empty c.loop-rest.rest.now c.is_empty.result c.is_empty.ensures c.loop-rest-test.true)
    (no_item (λ t. IsTrue (is_rank_term t)) term_text c.loop-rest.rest.now c.in_ok-term.field-0 c.in_default.is c.in_ok-term.ensures)

pub loop-rest-preserved : goal.loop-rest-preserved
loop-rest-preserved c =
    let item = an_item (λ t. IsTrue (is_rank_term t)) term_text c.loop-rest.rest.now c.in_ok-term.field-0 (c.in-Some.term, c.in-Some.behind) c.in-Some.is c.in_ok-term.ensures in
    rw c.in_ok-push.ensures.items (one_more (λ t. IsTrue (is_rank_term t)) term_text terms_begun terms_are_one c.args.bytes.now c.loop-rest.terms.items c.loop-rest.rest.now
    c.in-Some.term c.in-Some.behind.now c.loop-rest.invariant item.0 item.1 item.2)

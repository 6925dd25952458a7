use Rattle.explained_proof.specs.FactExpressions.Facts.{facts_from}
use Rattle.explained_proof.specs.FactExpressions.Views as facts
use Rattle.std.proofs.Common.{map}
use Rattle.explained_proof.specs.Ties.Views as view
use Rattle.explained_proof.proofs.KnowledgeLaws.{facts_on, facts_end}
use Rattle.explained_proof.proofs.clauses.facts_at.Goals as goal

pub loop-number-init : goal.loop-number-init
loop-number-init c = λ i. facts_from (map (view.known c.args.knowledge.now).predicate (c.preds-number-items.ensures i)) (c.new-facts.ensures i)

pub loop-number-preserved : goal.loop-number-preserved
loop-number-preserved c =
    facts_on (view.known c.args.knowledge.now).predicate c.preds-number-items.result.now c.loop-number.number-index (facts.facts c.loop-number.facts) (facts.facts c.add_predicate.new.facts) _ c.loop-number-test.true
    c.loop-number.invariant c.in_ok-add_predicate.ensures

pub returns : goal.returns
returns c = facts_end (view.known c.args.knowledge.now).predicate c.preds-number-items.result.now c.loop-number.number-index (facts.facts c.loop-number.facts) _ c.loop-number-test.false c.loop-number.invariant

use Rattle.proof_build.proofs.ListLaws.{correspond_more, correspond_end}
use Rattle.proof_build.proofs.NumberLaws.{HasItsNumber, numbers_are, numbers_within}
use Rattle.proof_build.proofs.numbers.numbers_of.Goals as goal

pub loop-state-preserved : goal.loop-state-preserved
loop-state-preserved c =
    correspond_more (HasItsNumber c.args.preds.now) c.loop-state.numbers.items c.push.new.self.items c.args.states.now c.loop-state.state-index
    c.in_ok-number_of.field-0 c.state-item.result c.state-item.result c.loop-state.invariant c.loop-state-test.true c.state-item.is
    (record { number = c.in_ok-number_of.ensures.number; truths = c.in_ok-number_of.ensures.truths }) c.in_ok-push.ensures.items

pub returns-clause-numbers : goal.returns-clause-numbers
returns-clause-numbers c =
    numbers_are c.args.preds.now c.args.states.now c.loop-state.numbers.items
    (correspond_end (HasItsNumber c.args.preds.now) c.loop-state.numbers.items c.args.states.now c.loop-state.state-index c.loop-state.invariant c.loop-state-test.false)

pub returns-clause-within : goal.returns-clause-within
returns-clause-within c = λ q k e.
    numbers_within c.args.preds.now c.args.states.now c.loop-state.numbers.items q k
    (correspond_end (HasItsNumber c.args.preds.now) c.loop-state.numbers.items c.args.states.now c.loop-state.state-index c.loop-state.invariant c.loop-state-test.false) e

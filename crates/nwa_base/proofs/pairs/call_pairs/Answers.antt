use Rattle.nwa_base.specs.Edges.{ends}
use Rattle.nwa_base.proofs.LoopLemmas.{expanded_none, expanded_more, expanded_all}
use Rattle.nwa_base.proofs.pairs.call_pairs.Goals as goal

pub loop-q-init : goal.loop-q-init
loop-q-init c = expanded_none (λ x. x.1) (λ x. ends x.1 c.args.a c.args.nwa.now.calls) c.args.set.now _ c.new-pairs.ensures.items

pub loop-q-preserved : goal.loop-q-preserved
loop-q-preserved c =
    expanded_more (λ x. x.1) (λ x. ends x.1 c.args.a c.args.nwa.now.calls) c.args.set.now c.loop-q.q-index (0, 0) _ _ _ _ c.loop-q-test.true c.call_ends.ensures c.loop-q.invariant c.in_ok-add_keyed.ensures

pub returns : goal.returns
returns c =
    expanded_all (λ x. x.1) (λ x. ends x.1 c.args.a c.args.nwa.now.calls) c.args.set.now c.loop-q.q-index _ _ c.loop-q-test.false c.loop-q.invariant

use Rattle.nwa_base.specs.Edges.{back_ends}
use Rattle.nwa_base.proofs.LoopLemmas.{expanded_none, expanded_more, expanded_all}
use Rattle.nwa_base.proofs.pairs.exit_pairs.Goals as goal

pub loop-p-init : goal.loop-p-init
loop-p-init c = expanded_none (λ x. x.0) (λ x. back_ends x.1 x.0 c.args.a c.args.nwa.now.backs) c.args.set.now _ c.new-pairs.ensures.items

pub loop-p-preserved : goal.loop-p-preserved
loop-p-preserved c =
    expanded_more (λ x. x.0) (λ x. back_ends x.1 x.0 c.args.a c.args.nwa.now.backs) c.args.set.now c.loop-p.p-index (0, 0) _ _ _ _ c.loop-p-test.true c.back_ends.ensures c.loop-p.invariant c.in_ok-add_keyed.ensures

pub returns : goal.returns
returns c =
    expanded_all (λ x. x.0) (λ x. back_ends x.1 x.0 c.args.a c.args.nwa.now.backs) c.args.set.now c.loop-p.p-index _ _ c.loop-p-test.false c.loop-p.invariant

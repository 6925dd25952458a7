use Rattle.std.proofs.Common.{eqb}
use Rattle.std.specs.HashMap.{get}
use Rattle.nwa_base.specs.Groups.{grouped}
use Rattle.nwa_base.proofs.LoopLemmas.{expanded_none, expanded_more, expanded_all}
use Rattle.nwa_base.proofs.pairs.joined.Goals as goal

pub loop-key-init : goal.loop-key-init
loop-key-init c = expanded_none (λ x. x.0) (λ x. grouped (get eqb c.args.groups.now.by_key x.1)) c.args.set.now _ c.new-pairs.ensures.items

pub loop-key-preserved : goal.loop-key-preserved
loop-key-preserved c =
    expanded_more (λ x. x.0) (λ x. grouped (get eqb c.args.groups.now.by_key x.1)) c.args.set.now c.loop-key.key-index (0, 0) _ _ _ _ c.loop-key-test.true c.of.ensures c.loop-key.invariant c.in_ok-add_keyed.ensures

pub returns : goal.returns
returns c =
    expanded_all (λ x. x.0) (λ x. grouped (get eqb c.args.groups.now.by_key x.1)) c.args.set.now c.loop-key.key-index _ _ c.loop-key-test.false c.loop-key.invariant

use Rattle.std.proofs.Common.{ℕ, refl, arith}
use Rattle.nwa_reduce.specs.Ties.Naming.{named}
use Rattle.nwa_reduce.specs.Ties.Folding.{IsJoinCopy}
use Rattle.nwa_reduce.proofs.EachLemmas.{each_none, each_on, each_all}
use Rattle.nwa_reduce.proofs.folding.joins_are_copies.Goals as goal

pub loop-before-init : goal.loop-before-init
loop-before-init c = each_none c.args.joins.now (λ (x : ℕ × ℕ). IsJoinCopy c.args.nwa.now (named c.args.names.now.of.items) c.args.image.now x.0 x.1)

pub loop-before-preserved : goal.loop-before-preserved
loop-before-preserved c =
    each_on c.args.joins.now c.loop-before.before-index _ (λ (x : ℕ × ℕ). IsJoinCopy c.args.nwa.now (named c.args.names.now.of.items) c.args.image.now x.0 x.1)
    c.loop-before-test.true c.loop-before.invariant (c.if-not-join_is_copy.ensures refl)

pub returns : goal.returns
returns c = λ yes.
    each_all c.args.joins.now c.loop-before.before-index (λ (x : ℕ × ℕ). IsJoinCopy c.args.nwa.now (named c.args.names.now.of.items) c.args.image.now x.0 x.1)
    (omega arith) c.loop-before.invariant

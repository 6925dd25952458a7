use Rattle.std.proofs.Common.{◌∙◌, arith}
use Rattle.nwa_difference.specs.Ties.Stages.{Goes, BacksFollowed}
use Rattle.nwa_difference.specs.Ties.Seen.{stage}
use Rattle.nwa_difference.proofs.FollowLemmas.{followed_all, at_item}
use Rattle.nwa_difference.proofs.StageLemmas.{state_stays, backs_followed_stay}
use Rattle.nwa_difference.proofs.StepLemmas.{walk_none, walk_more, exits_done}
use Rattle.nwa_difference.proofs.stepping.join_exits.Goals as goal

pub loop-exit-init : goal.loop-exit-init
loop-exit-init c =
    walk_none (λ s q. BacksFollowed s c.args.entry c.args.state q) (stage c.args.product.now c.args.pairs.now) c.as_slice-exit-items.result.now c.requires.stage

pub join-requires-clause-before : goal.join-requires-clause-before
join-requires-clause-before c =
    state_stays (stage c.args.product.now c.args.pairs.now) _ c.args.state c.loop-exit.invariant.goes c.requires.within

pub join-requires-clause-exit : goal.join-requires-clause-exit
join-requires-clause-exit c =
    let a = stage c.args.product.now c.args.pairs.now in
    state_stays a _ _ c.loop-exit.invariant.goes
    (c.requires.stage.exits c.args.inner _ (at_item _ _ _ _ (c.as_slice-exit-items.ensures.value ∙ c.in_ok-exits.ensures) c.loop-exit-test.true))

pub loop-exit-preserved : goal.loop-exit-preserved
loop-exit-preserved c =
    let a = stage c.args.product.now c.args.pairs.now in
    let b = stage c.loop-exit.product c.loop-exit.pairs in
    let r = c.in_ok-join.ensures in
    walk_more (λ s q. BacksFollowed s c.args.entry c.args.state q) a b (stage c.join.new.product c.join.new.pairs) _ _ _
    (λ s t q h m. backs_followed_stay s t c.args.entry c.args.state q h m) c.loop-exit-test.true c.loop-exit.invariant r.0 r.1

pub returns : goal.returns
returns c =
    let a = stage c.args.product.now c.args.pairs.now in
    let b = stage c.loop-exit.product c.loop-exit.pairs in (
      c.loop-exit.invariant.goes,
      exits_done a b c.args.entry c.args.state c.args.inner _ (c.as_slice-exit-items.ensures.value ∙ c.in_ok-exits.ensures)
          (followed_all Goes (λ s q. BacksFollowed s c.args.entry c.args.state q) a b _ _ (omega arith) c.loop-exit.invariant),
    )

use Rattle.std.proofs.Common.{◌∙◌, arith, None}
use Rattle.nwa_difference.specs.Ties.Stages.{Goes, BacksFollowed}
use Rattle.nwa_difference.specs.Ties.Seen.{stage}
use Rattle.nwa_difference.proofs.FollowLemmas.{followed_all, at_item}
use Rattle.nwa_difference.proofs.StageLemmas.{state_stays, backs_followed_stay}
use Rattle.nwa_difference.proofs.StepLemmas.{walk_none, walk_more, callers_done}
use Rattle.nwa_difference.proofs.stepping.join_callers.Goals as goal

pub loop-entry-init : goal.loop-entry-init
loop-entry-init c =
    walk_none (λ s j. BacksFollowed s j c.args.before c.args.state) (stage c.args.product.now c.args.pairs.now) c.as_slice-entry-items.result.now c.requires.stage

pub join-requires-clause-before : goal.join-requires-clause-before
join-requires-clause-before c =
    let a = stage c.args.product.now c.args.pairs.now in
    state_stays a _ _ c.loop-entry.invariant.goes
    (c.requires.stage.callers c.args.before _ (at_item _ _ _ None (c.as_slice-entry-items.ensures.value ∙ c.in_ok-entries.ensures) c.loop-entry-test.true))

pub join-requires-clause-exit : goal.join-requires-clause-exit
join-requires-clause-exit c =
    state_stays (stage c.args.product.now c.args.pairs.now) _ c.args.state c.loop-entry.invariant.goes c.requires.within

pub loop-entry-preserved : goal.loop-entry-preserved
loop-entry-preserved c =
    let a = stage c.args.product.now c.args.pairs.now in
    let b = stage c.loop-entry.product c.loop-entry.pairs in
    let r = c.in_ok-join.ensures in
    walk_more (λ s j. BacksFollowed s j c.args.before c.args.state) a b (stage c.join.new.product c.join.new.pairs) _ _ _
    (λ s t j h m. backs_followed_stay s t j c.args.before c.args.state h m) c.loop-entry-test.true c.loop-entry.invariant r.0 r.1

pub returns : goal.returns
returns c =
    let a = stage c.args.product.now c.args.pairs.now in
    let b = stage c.loop-entry.product c.loop-entry.pairs in (
      c.loop-entry.invariant.goes,
      callers_done a b c.args.before c.args.state _ (c.as_slice-entry-items.ensures.value ∙ c.in_ok-entries.ensures)
          (followed_all Goes (λ s j. BacksFollowed s j c.args.before c.args.state) a b _ _ (omega arith) c.loop-entry.invariant),
    )

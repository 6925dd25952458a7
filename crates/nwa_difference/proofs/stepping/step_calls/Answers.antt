use Rattle.std.proofs.Common.{◌∙◌, ap, arith}
use Rattle.nwa_base.specs.Automata.{Automaton}
use Rattle.nwa_difference.specs.Ties.Stages.{Goes}
use Rattle.nwa_difference.specs.Ties.Seen.{stage}
use Rattle.nwa_difference.proofs.FollowLemmas.{followed_all, item_leaving}
use Rattle.nwa_difference.proofs.StageLemmas.{state_stays}
use Rattle.nwa_difference.proofs.StepLemmas.{CallFollowed, walk_none, walk_more, exits_earlier, call_followed_stays, calls_done, call_ends_within}
use Rattle.nwa_difference.proofs.stepping.step_calls.Goals as goal

pub loop-inner-init : goal.loop-inner-init
loop-inner-init c =
    let a = stage c.args.product.now c.args.pairs.now in
    walk_none (CallFollowed a c.args.entry c.args.state) a c.as_slice-inner-items.result.now c.requires.stage

pub step_call-requires-clause-within : goal.step_call-requires-clause-within
step_call-requires-clause-within c =
    state_stays (stage c.args.product.now c.args.pairs.now) _ c.args.state c.loop-inner.invariant.goes (c.requires.stage.opened c.args.state c.requires.opened).0

pub step_call-requires-clause-inner : goal.step_call-requires-clause-inner
step_call-requires-clause-inner c =
    let a = stage c.args.product.now c.args.pairs.now in
    state_stays a _ _ c.loop-inner.invariant.goes
    (call_ends_within a _ _ _ c.requires.stage
    (item_leaving _ _ _ _ _ _ (c.as_slice-inner-items.ensures.value ∙ c.in_ok-calls.ensures.items ∙ c.calls_leaving.ensures) (ap (λ (m : Automaton). m.calls) c.nwa.ensures) c.loop-inner-test.true))

pub loop-inner-preserved : goal.loop-inner-preserved
loop-inner-preserved c =
    let a = stage c.args.product.now c.args.pairs.now in
    let b = stage c.loop-inner.product c.loop-inner.pairs in
    let d = stage c.step_call.new.product c.step_call.new.pairs in
    let r = c.in_ok-step_call.ensures in
    walk_more (CallFollowed a c.args.entry c.args.state) a b d _ _ _ (λ s t e h m. call_followed_stays a c.args.entry c.args.state s t e h m)
    c.loop-inner-test.true c.loop-inner.invariant r.goes (r.there, exits_earlier a b d c.args.entry c.args.state _ c.loop-inner.invariant.goes r.exits)

pub returns : goal.returns
returns c =
    let a = stage c.args.product.now c.args.pairs.now in
    let b = stage c.loop-inner.product c.loop-inner.pairs in
    calls_done a b c.args.entry c.args.state _ _ _ c.requires.opened c.loop-inner.invariant.goes (c.as_slice-inner-items.ensures.value ∙ c.in_ok-calls.ensures.items)
    c.calls_leaving.ensures (ap (λ (m : Automaton). m.calls) c.nwa.ensures)
    (followed_all Goes (CallFollowed a c.args.entry c.args.state) a b _ _ (omega arith) c.loop-inner.invariant)

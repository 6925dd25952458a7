use Rattle.std.proofs.Common.{◌∙◌, ap, arith}
use Rattle.nwa_base.specs.Automata.{Automaton}
use Rattle.nwa_difference.specs.Ties.Stages.{Goes}
use Rattle.nwa_difference.specs.Ties.Seen.{stage}
use Rattle.nwa_difference.proofs.FollowLemmas.{followed_all}
use Rattle.nwa_difference.proofs.StageLemmas.{state_stays}
use Rattle.nwa_difference.proofs.StepLemmas.{CallerFollowed, walk_none, walk_more, callers_earlier, caller_followed_stays, returns_done}
use Rattle.nwa_difference.proofs.stepping.step_returns.Goals as goal

pub loop-before-init : goal.loop-before-init
loop-before-init c =
    let a = stage c.args.product.now c.args.pairs.now in
    walk_none (CallerFollowed a c.args.state) a c.as_slice-before-items.result.now c.requires.stage

pub join_callers-requires-clause-within : goal.join_callers-requires-clause-within
join_callers-requires-clause-within c =
    state_stays (stage c.args.product.now c.args.pairs.now) _ c.args.state c.loop-before.invariant.goes c.requires.within

pub loop-before-preserved : goal.loop-before-preserved
loop-before-preserved c =
    let a = stage c.args.product.now c.args.pairs.now in
    let b = stage c.loop-before.product c.loop-before.pairs in
    let d = stage c.join_callers.new.product c.join_callers.new.pairs in
    let r = c.in_ok-join_callers.ensures in
    walk_more (CallerFollowed a c.args.state) a b d _ _ _ (λ s t e h m. caller_followed_stays a c.args.state s t e h m) c.loop-before-test.true
    c.loop-before.invariant r.0 (callers_earlier a b d _ c.args.state c.loop-before.invariant.goes r.1)

pub returns : goal.returns
returns c =
    let a = stage c.args.product.now c.args.pairs.now in
    let b = stage c.loop-before.product c.loop-before.pairs in
    returns_done a b c.args.inner c.args.state _ _ _ c.loop-before.invariant.goes (c.as_slice-before-items.ensures.value ∙ c.in_ok-calls.ensures.items)
    c.calls_entering.ensures (ap (λ (m : Automaton). m.calls) c.nwa.ensures)
    (followed_all Goes (CallerFollowed a c.args.state) a b _ _ (omega arith) c.loop-before.invariant)

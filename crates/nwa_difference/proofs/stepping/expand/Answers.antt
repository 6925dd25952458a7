use Rattle.nwa_difference.specs.Ties.Seen.{found, stage}
use Rattle.nwa_difference.proofs.StageLemmas.{caller_goes, state_stays}
use Rattle.nwa_difference.proofs.StepLemmas.{forward, expanded_none, expanded_some}
use Rattle.nwa_difference.proofs.stepping.expand.Goals as goal

pub open_state-requires-clause-within : goal.open_state-requires-clause-within
open_state-requires-clause-within c = c.requires.stage.pairs (c.args.entry, c.args.state) c.requires.pair

pub step_inside-requires-clause-stage : goal.step_inside-requires-clause-stage
step_inside-requires-clause-stage c =
    let b = stage c.open_state.new.product c.open_state.new.pairs in
    let g = c.in_ok-open_state.ensures in
    let n = c.in_ok-note_caller.ensures in
    let l = state_stays (stage c.args.product.now c.args.pairs.now) b c.args.state g.0 (c.requires.stage.pairs (c.args.entry, c.args.state) c.requires.pair) in
    let r = caller_goes b (found c.note_caller.new.self) c.args.entry c.args.state g.0.stage l n.groups n.rest in
    r.0.stage

pub step_inside-requires-clause-opened : goal.step_inside-requires-clause-opened
step_inside-requires-clause-opened c =
    let b = stage c.open_state.new.product c.open_state.new.pairs in
    let g = c.in_ok-open_state.ensures in
    let n = c.in_ok-note_caller.ensures in
    let l = state_stays (stage c.args.product.now c.args.pairs.now) b c.args.state g.0 (c.requires.stage.pairs (c.args.entry, c.args.state) c.requires.pair) in
    let r = caller_goes b (found c.note_caller.new.self) c.args.entry c.args.state g.0.stage l n.groups n.rest in
    r.0.opened c.args.state g.1

pub step_calls-requires-clause-stage : goal.step_calls-requires-clause-stage
step_calls-requires-clause-stage c = c.in_ok-step_inside.ensures.0.stage

pub step_calls-requires-clause-opened : goal.step_calls-requires-clause-opened
step_calls-requires-clause-opened c = c.in_ok-step_inside.ensures.1.0

pub leave_call-requires-clause-stage : goal.leave_call-requires-clause-stage
leave_call-requires-clause-stage c = c.in_ok-step_calls.ensures.goes.stage

pub leave_call-requires-clause-within : goal.leave_call-requires-clause-within
leave_call-requires-clause-within c = (c.in_ok-step_calls.ensures.goes.stage.opened c.args.state c.in_ok-step_calls.ensures.calls.0).0

pub returns-in_ok-leave_call-in-Some : goal.returns-in_ok-leave_call-in-Some
returns-in_ok-leave_call-in-Some c =
    let a = stage c.args.product.now c.args.pairs.now in
    let b = stage c.open_state.new.product c.open_state.new.pairs in
    let s = stage c.open_state.new.product c.note_caller.new.self in
    let d = stage c.open_state.new.product c.step_inside.new.pairs in
    let e = stage c.step_calls.new.product c.step_calls.new.pairs in
    let g = c.in_ok-open_state.ensures in
    let n = c.in_ok-note_caller.ensures in
    let l = state_stays a b c.args.state g.0 (c.requires.stage.pairs (c.args.entry, c.args.state) c.requires.pair) in
    let r = caller_goes b (found c.note_caller.new.self) c.args.entry c.args.state g.0.stage l n.groups n.rest in
    let i = c.in_ok-step_inside.ensures in
    expanded_some a e (stage c.leave_call.new.product c.leave_call.new.pairs) c.args.entry c.args.state c.in-Some.inner c.in-Some.is
    (forward a b s d e c.args.entry c.args.state g.0 r.0 r.1 i.0 i.1 c.in_ok-step_calls.ensures) c.in_ok-leave_call-in-Some.ensures

pub returns-in-None : goal.returns-in-None
returns-in-None c =
    let a = stage c.args.product.now c.args.pairs.now in
    let b = stage c.open_state.new.product c.open_state.new.pairs in
    let s = stage c.open_state.new.product c.note_caller.new.self in
    let d = stage c.open_state.new.product c.step_inside.new.pairs in
    let e = stage c.step_calls.new.product c.step_calls.new.pairs in
    let g = c.in_ok-open_state.ensures in
    let n = c.in_ok-note_caller.ensures in
    let l = state_stays a b c.args.state g.0 (c.requires.stage.pairs (c.args.entry, c.args.state) c.requires.pair) in
    let r = caller_goes b (found c.note_caller.new.self) c.args.entry c.args.state g.0.stage l n.groups n.rest in
    let i = c.in_ok-step_inside.ensures in
    expanded_none a e c.args.entry c.args.state c.in-None.is
    (forward a b s d e c.args.entry c.args.state g.0 r.0 r.1 i.0 i.1 c.in_ok-step_calls.ensures)

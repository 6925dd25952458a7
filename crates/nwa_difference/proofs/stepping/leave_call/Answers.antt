use Rattle.nwa_difference.specs.Ties.Seen.{found, stage}
use Rattle.nwa_difference.proofs.StageLemmas.{exit_goes}
use Rattle.nwa_difference.proofs.StepLemmas.{exit_done}
use Rattle.nwa_difference.proofs.stepping.leave_call.Goals as goal

pub step_returns-requires-clause-stage : goal.step_returns-requires-clause-stage
step_returns-requires-clause-stage c =
    let n = c.in_ok-note_exit.ensures in
    let r =
    exit_goes (stage c.args.product.now c.args.pairs.now) (found c.note_exit.new.self) c.args.inner c.args.state c.requires.stage c.requires.within n.groups
    n.rest in
    r.0.stage

pub step_returns-requires-clause-within : goal.step_returns-requires-clause-within
step_returns-requires-clause-within c = c.requires.within

pub returns-in_ok-step_returns : goal.returns-in_ok-step_returns
returns-in_ok-step_returns c =
    let a = stage c.args.product.now c.args.pairs.now in
    let n = c.in_ok-note_exit.ensures in
    let r = exit_goes a (found c.note_exit.new.self) c.args.inner c.args.state c.requires.stage c.requires.within n.groups n.rest in
    exit_done a (stage c.args.product.now c.note_exit.new.self) (stage c.step_returns.new.product c.step_returns.new.pairs) c.args.inner c.args.state r.0 r.1
    c.in_ok-step_returns.ensures

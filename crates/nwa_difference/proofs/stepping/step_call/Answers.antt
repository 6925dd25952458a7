use Rattle.std.proofs.Common.{Some}
use Rattle.nwa_difference.specs.Ties.Seen.{found, stage}
use Rattle.nwa_difference.proofs.StageLemmas.{pair_goes}
use Rattle.nwa_difference.proofs.StepLemmas.{call_done}
use Rattle.nwa_difference.proofs.stepping.step_call.Goals as goal

pub join_exits-requires-clause-stage : goal.join_exits-requires-clause-stage
join_exits-requires-clause-stage c =
    let r =
    pair_goes (stage c.args.product.now c.args.pairs.now) (found c.add.new.self) (Some c.args.inner) c.args.inner c.requires.stage c.requires.inner
    c.in_ok-add.ensures.adds c.in_ok-add.ensures.rest in
    r.0.stage

pub returns : goal.returns
returns c =
    let r =
    pair_goes (stage c.args.product.now c.args.pairs.now) (found c.add.new.self) (Some c.args.inner) c.args.inner c.requires.stage c.requires.inner
    c.in_ok-add.ensures.adds c.in_ok-add.ensures.rest in
    let h = c.in_ok-join_exits.ensures in
    call_done (stage c.args.product.now c.args.pairs.now) (stage c.args.product.now c.add.new.self) (stage c.join_exits.new.product c.join_exits.new.pairs)
    c.args.entry c.args.state c.args.inner r.0 r.1 h.0 h.1

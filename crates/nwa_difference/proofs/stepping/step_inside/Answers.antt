use Rattle.std.proofs.Common.{ap, arith}
use Rattle.nwa_base.specs.Automata.{Automaton}
use Rattle.nwa_base.specs.Members.{Member}
use Rattle.nwa_difference.specs.Ties.Stages.{Goes}
use Rattle.nwa_difference.specs.Ties.Seen.{found, stage}
use Rattle.nwa_difference.proofs.FollowLemmas.{followed_all, item_leaving}
use Rattle.nwa_difference.proofs.StageLemmas.{pair_stays, pair_goes}
use Rattle.nwa_difference.proofs.StepLemmas.{walk_none, walk_more, insides_done, inside_ends_within}
use Rattle.nwa_difference.proofs.stepping.step_inside.Goals as goal

pub loop-end-init : goal.loop-end-init
loop-end-init c =
    walk_none (λ s e. Member s.found.pairs (c.args.entry, e.2)) (stage c.args.product.now c.args.pairs.now) c.insides_leaving-end-items.result.now c.requires.stage

pub loop-end-preserved : goal.loop-end-preserved
loop-end-preserved c =
    let a = stage c.args.product.now c.args.pairs.now in
    let b = stage c.args.product.now c.loop-end.pairs in
    let g = c.loop-end.invariant.goes in
    let r =
    pair_goes b (found c.add.new.self) c.args.entry _ g.stage
    (inside_ends_within b _ _ _ g.stage (item_leaving _ _ _ _ _ _ c.insides_leaving-end-items.ensures (ap (λ (m : Automaton). m.insides) c.nwa.ensures) c.loop-end-test.true))
    c.in_ok-add.ensures.adds c.in_ok-add.ensures.rest in
    walk_more (λ s e. Member s.found.pairs (c.args.entry, e.2)) a b (stage c.args.product.now c.add.new.self) _ _ _ (λ s t e h m. pair_stays s t _ h m)
    c.loop-end-test.true c.loop-end.invariant r.0 r.1

pub returns : goal.returns
returns c =
    let a = stage c.args.product.now c.args.pairs.now in (
      c.loop-end.invariant.goes,
      insides_done a (found c.loop-end.pairs) c.args.entry c.args.state _ _ c.requires.opened c.loop-end.invariant.goes c.insides_leaving-end-items.ensures
          (ap (λ (m : Automaton). m.insides) c.nwa.ensures)
          (followed_all Goes (λ s e. Member s.found.pairs (c.args.entry, e.2)) a (stage c.args.product.now c.loop-end.pairs) _ _ (omega arith) c.loop-end.invariant),
    )

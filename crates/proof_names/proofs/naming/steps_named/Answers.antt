use Rattle.proof_names.specs.Naming.{NamesStep}
use Rattle.proof_names.specs.Outlines.{named_place}
use Rattle.proof_names.proofs.PairLaws.{is_got, so_far_on, so_far_stops, stops_at}
use Rattle.proof_names.proofs.SoFarLaws.{so_far_start, so_far_end}
use Rattle.proof_names.proofs.naming.steps_named.Goals as goal

pub returns-in-None-clause-at : goal.returns-in-None-clause-at
returns-in-None-clause-at c =
    λ i e. stops_at (λ k line t. NamesStep c.args.icfg.now (named_place c.args.nodes.now) line t) c.args.lines.now c.args.first i c.loop-k.k (c.unnamed.ensures i (cc))
    (so_far_stops (λ k line t. NamesStep c.args.icfg.now (named_place c.args.nodes.now) line t) c.args.lines.now c.loop-k.k c.loop-k.steps.items c.index-lines-k.result c.loop-k.invariant
    (is_got c.args.lines.now c.loop-k.k c.index-lines-k.result c.loop-k-test.true c.index-lines-k.is) c.in-None.ensures)

pub loop-k-preserved : goal.loop-k-preserved
loop-k-preserved c =
    so_far_on (λ k line t. NamesStep c.args.icfg.now (named_place c.args.nodes.now) line t) c.args.lines.now c.loop-k.k c.loop-k.steps.items _ c.index-lines-k.result c.in-Some.step
    c.loop-k.invariant (is_got c.args.lines.now c.loop-k.k c.index-lines-k.result c.loop-k-test.true c.index-lines-k.is) c.in-Some.ensures c.in_ok-push-in-Some.ensures.items

pub loop-k-init : goal.loop-k-init
loop-k-init c = so_far_start (λ k line t. NamesStep c.args.icfg.now (named_place c.args.nodes.now) line t) c.args.lines.now c.in_ok-steps.steps.items c.in_ok-steps.ensures.items

pub returns-clause-ok : goal.returns-clause-ok
returns-clause-ok c = so_far_end (λ k line t. NamesStep c.args.icfg.now (named_place c.args.nodes.now) line t) c.args.lines.now c.loop-k.k c.loop-k.steps.items c.loop-k.invariant c.loop-k-test.false c.loop-k.auto.k-end

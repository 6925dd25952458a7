use Rattle.std.proofs.Common.{arith}
use Rattle.proof_build.specs.ProofUnwind.Unwindings.{HasStep, node_place_in}
use Rattle.proof_build.specs.ProofUnwind.Exploring.{Stage, GoesOnFrom}
use Rattle.proof_build.specs.ProofUnwind.Ties.Searches.{stage_of}
use Rattle.proof_build.proofs.ProofUnwind.LoopLaws.{followed_none, followed_more, followed_all}
use Rattle.proof_build.proofs.ProofUnwind.StageLaws.{from_not, from_on, there_stays, open_stays, edge_from, each_from, call_kind, called_stays}
use Rattle.proof_build.proofs.proof_unwind.opening.call_steps.Goals as goal

pub loop-letter-init : goal.loop-letter-init
loop-letter-init c =
    followed_none (GoesOnFrom c.args.graph.now c.args.union.now c.args.from) (λ s e. HasStep s.steps.calls s.nodes c.args.from e.1 e.2) (stage_of c.args.search.now)
    c.calls_leaving-letter-items.result.now (from_not c.args.graph.now c.args.union.now c.args.from (stage_of c.args.search.now) c.requires.exploring)

pub call_step-requires-clause-opens : goal.call_step-requires-clause-opens
call_step-requires-clause-opens c =
    open_stays (stage_of c.args.search.now) (stage_of c.loop-letter.search) c.args.from c.loop-letter.invariant.goes.grows c.requires.there c.requires.opens

pub call_step-requires-clause-edge : goal.call_step-requires-clause-edge
call_step-requires-clause-edge c =
    edge_from c.calls_leaving-letter-items.result.now c.args.graph.now.calls (stage_of c.args.search.now) (stage_of c.loop-letter.search) c.args.from c.place-place.result
    c.loop-letter.letter-index _ c.loop-letter.invariant.goes.grows c.requires.there c.place-place.ensures c.calls_leaving-letter-items.ensures c.loop-letter-test.true

pub call_step-requires-clause-kind : goal.call_step-requires-clause-kind
call_step-requires-clause-kind c =
    call_kind c.args.graph.now (node_place_in (stage_of c.loop-letter.search).nodes c.args.from) _ _ c.requires.graph
    (edge_from c.calls_leaving-letter-items.result.now c.args.graph.now.calls (stage_of c.args.search.now) (stage_of c.loop-letter.search) c.args.from c.place-place.result
    c.loop-letter.letter-index _ c.loop-letter.invariant.goes.grows c.requires.there c.place-place.ensures c.calls_leaving-letter-items.ensures c.loop-letter-test.true)

pub loop-letter-preserved : goal.loop-letter-preserved
loop-letter-preserved c =
    followed_more (GoesOnFrom c.args.graph.now c.args.union.now c.args.from) (λ s e. HasStep s.steps.calls s.nodes c.args.from e.1 e.2) (stage_of c.args.search.now)
    (stage_of c.loop-letter.search) (stage_of c.call_step.new.search) c.calls_leaving-letter-items.result.now c.loop-letter.letter-index _
    (from_on c.args.graph.now c.args.union.now c.args.from)
    (λ s t e g h p. called_stays c.args.graph.now c.args.union.now s t c.args.from e.1 e.2 g.exploring h.grows p)
    c.loop-letter-test.true c.loop-letter.invariant c.in_ok-call_step.ensures.goes c.in_ok-call_step.ensures.step

pub returns : goal.returns
returns c =
    let s : Stage = stage_of c.args.search.now in
    let t : Stage = stage_of c.loop-letter.search in (
      c.loop-letter.invariant.goes,
      each_from c.calls_leaving-letter-items.result.now c.args.graph.now.calls s t c.args.from c.place-place.result
          (λ e. HasStep t.steps.calls t.nodes c.args.from e.1 e.2) c.loop-letter.invariant.goes.grows c.requires.there c.place-place.ensures
          c.calls_leaving-letter-items.ensures
          (followed_all (GoesOnFrom c.args.graph.now c.args.union.now c.args.from) (λ u e. HasStep u.steps.calls u.nodes c.args.from e.1 e.2) s t
          c.calls_leaving-letter-items.result.now c.loop-letter.letter-index (omega arith) c.loop-letter.invariant),
    )

pub call_step-requires-clause-exploring : goal.call_step-requires-clause-exploring
call_step-requires-clause-exploring c = c.loop-letter.invariant.goes.exploring

pub call_step-requires-clause-there : goal.call_step-requires-clause-there
call_step-requires-clause-there c = there_stays (stage_of c.args.search.now) (stage_of c.loop-letter.search) c.args.from c.loop-letter.invariant.goes.grows c.requires.there

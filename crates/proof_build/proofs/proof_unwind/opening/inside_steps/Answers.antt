use Rattle.std.proofs.Common.{arith}
use Rattle.proof_build.specs.ProofUnwind.Unwindings.{HasStep, node_place_in}
use Rattle.proof_build.specs.ProofUnwind.Exploring.{Stage, GoesOn}
use Rattle.proof_build.specs.ProofUnwind.Ties.Searches.{stage_of}
use Rattle.proof_build.proofs.ProofUnwind.LoopLaws.{followed_none, followed_more, followed_all}
use Rattle.proof_build.proofs.ProofUnwind.StageLaws.{goes_not, goes_on, there_stays, open_stays, edge_from, each_from, inside_kind, inside_stays}
use Rattle.proof_build.proofs.proof_unwind.opening.inside_steps.Goals as goal

pub loop-letter-init : goal.loop-letter-init
loop-letter-init c =
    followed_none (GoesOn c.args.graph.now c.args.union.now) (λ s e. HasStep s.steps.insides s.nodes c.args.from e.1 e.2) (stage_of c.args.search.now)
    c.insides_leaving-letter-items.result.now (goes_not c.args.graph.now c.args.union.now (stage_of c.args.search.now) c.requires.exploring)

pub inside_step-requires-clause-opens : goal.inside_step-requires-clause-opens
inside_step-requires-clause-opens c =
    open_stays (stage_of c.args.search.now) (stage_of c.loop-letter.search) c.args.from c.loop-letter.invariant.goes.grows c.requires.there c.requires.opens

pub inside_step-requires-clause-edge : goal.inside_step-requires-clause-edge
inside_step-requires-clause-edge c =
    edge_from c.insides_leaving-letter-items.result.now c.args.graph.now.insides (stage_of c.args.search.now) (stage_of c.loop-letter.search) c.args.from c.place-place.result
    c.loop-letter.letter-index _ c.loop-letter.invariant.goes.grows c.requires.there c.place-place.ensures c.insides_leaving-letter-items.ensures c.loop-letter-test.true

pub inside_step-requires-clause-kind : goal.inside_step-requires-clause-kind
inside_step-requires-clause-kind c =
    inside_kind c.args.graph.now (node_place_in (stage_of c.loop-letter.search).nodes c.args.from) _ _ c.requires.graph
    (edge_from c.insides_leaving-letter-items.result.now c.args.graph.now.insides (stage_of c.args.search.now) (stage_of c.loop-letter.search) c.args.from c.place-place.result
    c.loop-letter.letter-index _ c.loop-letter.invariant.goes.grows c.requires.there c.place-place.ensures c.insides_leaving-letter-items.ensures c.loop-letter-test.true)

pub loop-letter-preserved : goal.loop-letter-preserved
loop-letter-preserved c =
    followed_more (GoesOn c.args.graph.now c.args.union.now) (λ s e. HasStep s.steps.insides s.nodes c.args.from e.1 e.2) (stage_of c.args.search.now)
    (stage_of c.loop-letter.search) (stage_of c.inside_step.new.search) c.insides_leaving-letter-items.result.now c.loop-letter.letter-index _
    (goes_on c.args.graph.now c.args.union.now)
    (λ s t e g h p. inside_stays c.args.graph.now c.args.union.now s t c.args.from e.1 e.2 g.exploring h.grows p)
    c.loop-letter-test.true c.loop-letter.invariant c.in_ok-inside_step.ensures.goes c.in_ok-inside_step.ensures.step

pub returns : goal.returns
returns c =
    let s : Stage = stage_of c.args.search.now in
    let t : Stage = stage_of c.loop-letter.search in (
      c.loop-letter.invariant.goes,
      each_from c.insides_leaving-letter-items.result.now c.args.graph.now.insides s t c.args.from c.place-place.result
          (λ e. HasStep t.steps.insides t.nodes c.args.from e.1 e.2) c.loop-letter.invariant.goes.grows c.requires.there c.place-place.ensures
          c.insides_leaving-letter-items.ensures
          (followed_all (GoesOn c.args.graph.now c.args.union.now) (λ u e. HasStep u.steps.insides u.nodes c.args.from e.1 e.2) s t
          c.insides_leaving-letter-items.result.now c.loop-letter.letter-index (omega arith) c.loop-letter.invariant),
    )

pub inside_step-requires-clause-exploring : goal.inside_step-requires-clause-exploring
inside_step-requires-clause-exploring c = c.loop-letter.invariant.goes.exploring

pub inside_step-requires-clause-there : goal.inside_step-requires-clause-there
inside_step-requires-clause-there c = there_stays (stage_of c.args.search.now) (stage_of c.loop-letter.search) c.args.from c.loop-letter.invariant.goes.grows c.requires.there

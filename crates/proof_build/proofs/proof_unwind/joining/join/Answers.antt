use Rattle.std.proofs.Common.{◌≡◌, ◌+◌, take, sym, subst, arith}
use Rattle.proof_build.specs.declared.proof_unwind.search.Search.{Search}
use Rattle.proof_build.specs.ProofUnwind.Unwindings.{HasBack, node_place_in, entry_of}
use Rattle.proof_build.specs.ProofUnwind.Exploring.{Stage, GoesOn}
use Rattle.proof_build.specs.ProofUnwind.Ties.Searches.{stage_of}
use Rattle.proof_build.proofs.ProofUnwind.LoopLaws.{Followed, followed_none, followed_more, followed_all}
use Rattle.proof_build.proofs.ProofUnwind.StageLaws.{goes_not, goes_on, there_stays, open_stays, edge_between, each_between, back_kind, returned_stays, call_to_stays, caller, IsCaller}
use Rattle.proof_build.proofs.proof_unwind.joining.join.Goals as goal
use Rattle.proof_build.proofs.proof_unwind.joining.join.Goals.{then-letter-call+in_ok-back_step, else-letter-call}

pub place-outer-requires : goal.place-outer-requires
place-outer-requires c =
    let p : IsCaller c.args.graph.now (stage_of c.args.search.now) c.args.before c.args.call =
    caller c.args.graph.now c.args.union.now (stage_of c.args.search.now) c.args.before c.args.call _ c.requires.graph c.requires.exploring c.requires.called in p.there

pub loop-letter-init : goal.loop-letter-init
loop-letter-init c =
    followed_none (GoesOn c.args.graph.now c.args.union.now) (λ s e. e.2.call ≡ c.args.call.id → HasBack s.steps.backs s.nodes c.args.exit c.args.before e.2 e.3)
    (stage_of c.args.search.now) c.backs_between-letter-items.result.now (goes_not c.args.graph.now c.args.union.now (stage_of c.args.search.now) c.requires.exploring)

pub back_step-requires-clause-open_exit : goal.back_step-requires-clause-open_exit
back_step-requires-clause-open_exit c =
    open_stays (stage_of c.args.search.now) (stage_of c.loop-letter.search) c.args.exit c.loop-letter.invariant.goes.grows c.requires.there c.requires.opens

pub back_step-requires-clause-open_before : goal.back_step-requires-clause-open_before
back_step-requires-clause-open_before c =
    let s : Stage = stage_of c.args.search.now in
    let p : IsCaller c.args.graph.now s c.args.before c.args.call =
    caller c.args.graph.now c.args.union.now s c.args.before c.args.call (entry_of s.nodes c.args.exit) c.requires.graph c.requires.exploring c.requires.called in
    open_stays s (stage_of c.loop-letter.search) c.args.before c.loop-letter.invariant.goes.grows p.there p.opens

pub back_step-requires-clause-called : goal.back_step-requires-clause-called
back_step-requires-clause-called c =
    call_to_stays c.args.graph.now c.args.union.now (stage_of c.args.search.now) (stage_of c.loop-letter.search) c.args.exit c.args.before c.args.call c.loop-letter.invariant.goes
    c.requires.there c.requires.called

pub back_step-requires-clause-call_kind : goal.back_step-requires-clause-call_kind
back_step-requires-clause-call_kind c =
    let s : Stage = stage_of c.args.search.now in
    let p : IsCaller c.args.graph.now s c.args.before c.args.call =
    caller c.args.graph.now c.args.union.now s c.args.before c.args.call (entry_of s.nodes c.args.exit) c.requires.graph c.requires.exploring c.requires.called in p.kind

pub back_step-requires-clause-edge : goal.back_step-requires-clause-edge
back_step-requires-clause-edge c =
    let s : Stage = stage_of c.args.search.now in
    let p : IsCaller c.args.graph.now s c.args.before c.args.call =
    caller c.args.graph.now c.args.union.now s c.args.before c.args.call (entry_of s.nodes c.args.exit) c.requires.graph c.requires.exploring c.requires.called in
    edge_between c.backs_between-letter-items.result.now c.args.graph.now.backs s (stage_of c.loop-letter.search) c.args.exit c.args.before c.place-place.result c.place-outer.result
    c.loop-letter.letter-index _ c.loop-letter.invariant.goes.grows c.requires.there p.there c.place-place.ensures c.place-outer.ensures c.backs_between-letter-items.ensures
    c.loop-letter-test.true

pub back_step-requires-clause-kind : goal.back_step-requires-clause-kind
back_step-requires-clause-kind c =
    let s : Stage = stage_of c.args.search.now in
    let t : Stage = stage_of c.loop-letter.search in
    let p : IsCaller c.args.graph.now s c.args.before c.args.call =
    caller c.args.graph.now c.args.union.now s c.args.before c.args.call (entry_of s.nodes c.args.exit) c.requires.graph c.requires.exploring c.requires.called in
    back_kind c.args.graph.now (node_place_in t.nodes c.args.exit) (node_place_in t.nodes c.args.before) _ _ c.requires.graph
    (edge_between c.backs_between-letter-items.result.now c.args.graph.now.backs s t c.args.exit c.args.before c.place-place.result c.place-outer.result
    c.loop-letter.letter-index _ c.loop-letter.invariant.goes.grows c.requires.there p.there c.place-place.ensures c.place-outer.ensures c.backs_between-letter-items.ensures
    c.loop-letter-test.true)

pub loop-letter-preserved : goal.loop-letter-preserved
loop-letter-preserved c =
    let m = c.args.graph.now in
    let b = c.args.union.now in
    let s : Stage = stage_of c.args.search.now in
    elim c.if-letter-call.branch [
      | then-letter-call+in_ok-back_step w ↦
          subst (λ (v : Search). Followed (GoesOn m b) (λ t e. e.2.call ≡ c.args.call.id → HasBack t.steps.backs t.nodes c.args.exit c.args.before e.2 e.3) s (stage_of v)
          (take (c.loop-letter.letter-index + 1) c.backs_between-letter-items.result.now)) (sym w.search-is)
          (followed_more (GoesOn m b) (λ t e. e.2.call ≡ c.args.call.id → HasBack t.steps.backs t.nodes c.args.exit c.args.before e.2 e.3) s (stage_of c.loop-letter.search)
          (stage_of w.back_step.new.search) c.backs_between-letter-items.result.now c.loop-letter.letter-index _ (goes_on m b)
          (λ t u e g h p k. returned_stays m b t u c.args.exit c.args.before e.2 e.3 g.exploring h.grows (p k)) c.loop-letter-test.true c.loop-letter.invariant
          w.in_ok-back_step.ensures.goes (λ k. w.in_ok-back_step.ensures.back))
      | else-letter-call w ↦
          subst (λ (v : Search). Followed (GoesOn m b) (λ t e. e.2.call ≡ c.args.call.id → HasBack t.steps.backs t.nodes c.args.exit c.args.before e.2 e.3) s (stage_of v)
          (take (c.loop-letter.letter-index + 1) c.backs_between-letter-items.result.now)) (sym w.search-is)
          (followed_more (GoesOn m b) (λ t e. e.2.call ≡ c.args.call.id → HasBack t.steps.backs t.nodes c.args.exit c.args.before e.2 e.3) s (stage_of c.loop-letter.search)
          (stage_of c.loop-letter.search) c.backs_between-letter-items.result.now c.loop-letter.letter-index _ (goes_on m b)
          (λ t u e g h p k. returned_stays m b t u c.args.exit c.args.before e.2 e.3 g.exploring h.grows (p k)) c.loop-letter-test.true c.loop-letter.invariant
          (goes_not m b (stage_of c.loop-letter.search) c.loop-letter.invariant.goes.exploring) (λ k. absurd (w.if-letter-call.false k)))
    ]

pub returns : goal.returns
returns c =
    let s : Stage = stage_of c.args.search.now in
    let t : Stage = stage_of c.loop-letter.search in
    let p : IsCaller c.args.graph.now s c.args.before c.args.call =
    caller c.args.graph.now c.args.union.now s c.args.before c.args.call (entry_of s.nodes c.args.exit) c.requires.graph c.requires.exploring c.requires.called in (
      c.loop-letter.invariant.goes,
      λ a e i k. each_between c.backs_between-letter-items.result.now c.args.graph.now.backs s t c.args.exit c.args.before c.place-place.result c.place-outer.result
          (λ e. e.2.call ≡ c.args.call.id → HasBack t.steps.backs t.nodes c.args.exit c.args.before e.2 e.3) c.loop-letter.invariant.goes.grows c.requires.there p.there
          c.place-place.ensures c.place-outer.ensures c.backs_between-letter-items.ensures
          (followed_all (GoesOn c.args.graph.now c.args.union.now) (λ u e. e.2.call ≡ c.args.call.id → HasBack u.steps.backs u.nodes c.args.exit c.args.before e.2 e.3) s t
          c.backs_between-letter-items.result.now c.loop-letter.letter-index (omega arith) c.loop-letter.invariant) a e i k,
    )

pub back_step-requires-clause-exploring : goal.back_step-requires-clause-exploring
back_step-requires-clause-exploring c = c.loop-letter.invariant.goes.exploring

pub back_step-requires-clause-exit : goal.back_step-requires-clause-exit
back_step-requires-clause-exit c =
    there_stays (stage_of c.args.search.now) (stage_of c.loop-letter.search) c.args.exit c.loop-letter.invariant.goes.grows c.requires.there

pub back_step-requires-clause-before : goal.back_step-requires-clause-before
back_step-requires-clause-before c =
    let s : Stage = stage_of c.args.search.now in
    let p : IsCaller c.args.graph.now s c.args.before c.args.call =
    caller c.args.graph.now c.args.union.now s c.args.before c.args.call (entry_of s.nodes c.args.exit) c.requires.graph c.requires.exploring c.requires.called in
    there_stays s (stage_of c.loop-letter.search) c.args.before c.loop-letter.invariant.goes.grows p.there

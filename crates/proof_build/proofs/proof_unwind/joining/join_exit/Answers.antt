use Rattle.std.proofs.Common.{◌≡◌, ◌∙◌, ℕ, List, sym, ap, subst, arith}
use Rattle.nwa_base.specs.declared.letters.Letter.{Letter}
use Rattle.nwa_base.specs.Members.{Member}
use Rattle.nwa_base.specs.Edges.{entering}
use Rattle.proof_build.specs.ProofUnwind.Unwindings.{entry_of}
use Rattle.proof_build.specs.ProofUnwind.Exploring.{Stage, GoesOn}
use Rattle.proof_build.specs.ProofUnwind.Ties.Searches.{stage_of}
use Rattle.proof_build.proofs.ProofUnwind.LoopLaws.{item_entering, does_enter, followed_none, followed_more, followed_all}
use Rattle.proof_build.proofs.ProofUnwind.StageLaws.{Joined, goes_not, goes_on, there_stays, open_stays, call_to_stays, joined_stays, joined_by}
use Rattle.proof_build.proofs.proof_unwind.joining.join_exit.Goals as goal

pub loop-before-init : goal.loop-before-init
loop-before-init c =
    followed_none (GoesOn c.args.graph.now c.args.union.now) (λ s e. Joined c.args.graph.now s c.args.exit e.0 e.1) (stage_of c.args.search.now) c.deref-before-items.result.now
    (goes_not c.args.graph.now c.args.union.now (stage_of c.args.search.now) c.requires.exploring)

pub join-requires-clause-opens : goal.join-requires-clause-opens
join-requires-clause-opens c =
    open_stays (stage_of c.args.search.now) (stage_of c.loop-before.search) c.args.exit c.loop-before.invariant.goes.grows c.requires.there c.requires.opens

pub join-requires-clause-called : goal.join-requires-clause-called
join-requires-clause-called c =
    let s : Stage = stage_of c.args.search.now in
    let is : c.deref-before-items.result.now ≡ entering (entry_of s.nodes c.args.exit) s.steps.calls =
    c.deref-before-items.ensures.value ∙ c.in_ok-callers.ensures.items ∙ c.calls_entering.ensures ∙ ap (λ (k : ℕ). entering k s.steps.calls) c.entry-entry.ensures in
    call_to_stays c.args.graph.now c.args.union.now s (stage_of c.loop-before.search) c.args.exit _ _ c.loop-before.invariant.goes c.requires.there
    (item_entering c.deref-before-items.result.now s.steps.calls (entry_of s.nodes c.args.exit) c.loop-before.before-index _ is c.loop-before-test.true)

pub loop-before-preserved : goal.loop-before-preserved
loop-before-preserved c =
    let m = c.args.graph.now in
    let b = c.args.union.now in
    let s : Stage = stage_of c.args.search.now in
    let t : Stage = stage_of c.loop-before.search in
    let is : c.deref-before-items.result.now ≡ entering (entry_of s.nodes c.args.exit) s.steps.calls =
    c.deref-before-items.ensures.value ∙ c.in_ok-callers.ensures.items ∙ c.calls_entering.ensures ∙ ap (λ (k : ℕ). entering k s.steps.calls) c.entry-entry.ensures in
    followed_more (GoesOn m b) (λ u e. Joined m u c.args.exit e.0 e.1) s t (stage_of c.join.new.search) c.deref-before-items.result.now c.loop-before.before-index _ (goes_on m b)
    (λ u v e g h p. joined_stays m b u v c.args.exit e.0 e.1 g.exploring h.grows p) c.loop-before-test.true c.loop-before.invariant c.in_ok-join.ensures.0
    (joined_by m b t (stage_of c.join.new.search) c.args.exit _ _ (entry_of t.nodes c.args.exit) c.requires.graph c.loop-before.invariant.goes.exploring
    (there_stays s t c.args.exit c.loop-before.invariant.goes.grows c.requires.there)
    (call_to_stays m b s t c.args.exit _ _ c.loop-before.invariant.goes c.requires.there
    (item_entering c.deref-before-items.result.now s.steps.calls (entry_of s.nodes c.args.exit) c.loop-before.before-index _ is c.loop-before-test.true))
    c.in_ok-join.ensures.0 c.in_ok-join.ensures.1)

pub returns : goal.returns
returns c =
    let m = c.args.graph.now in
    let b = c.args.union.now in
    let s : Stage = stage_of c.args.search.now in
    let is : c.deref-before-items.result.now ≡ entering (entry_of s.nodes c.args.exit) s.steps.calls =
    c.deref-before-items.ensures.value ∙ c.in_ok-callers.ensures.items ∙ c.calls_entering.ensures ∙ ap (λ (k : ℕ). entering k s.steps.calls) c.entry-entry.ensures in (
      c.loop-before.invariant.goes,
      λ p a i. (followed_all (GoesOn m b) (λ u e. Joined m u c.args.exit e.0 e.1) s (stage_of c.loop-before.search) c.deref-before-items.result.now
          c.loop-before.before-index (omega arith) c.loop-before.invariant (p, a, entry_of s.nodes c.args.exit)
          (subst (λ (l : List (ℕ × Letter × ℕ)). Member l (p, a, entry_of s.nodes c.args.exit)) (sym is) (does_enter (entry_of s.nodes c.args.exit) s.steps.calls p a i))).backs,
    )

pub join-requires-clause-graph : goal.join-requires-clause-graph
join-requires-clause-graph c = c.requires.graph

pub join-requires-clause-exploring : goal.join-requires-clause-exploring
join-requires-clause-exploring c = c.loop-before.invariant.goes.exploring

pub join-requires-clause-there : goal.join-requires-clause-there
join-requires-clause-there c =
    there_stays (stage_of c.args.search.now) (stage_of c.loop-before.search) c.args.exit c.loop-before.invariant.goes.grows c.requires.there

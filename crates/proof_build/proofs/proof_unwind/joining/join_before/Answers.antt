use Rattle.std.proofs.Common.{◌≡◌, ◌∙◌, ℕ, List, sym, subst, arith}
use Rattle.nwa_base.specs.declared.letters.Letter.{Letter}
use Rattle.nwa_base.specs.Members.{Member}
use Rattle.nwa_base.specs.Edges.{leaving}
use Rattle.proof_build.specs.ProofUnwind.Exploring.{Stage, GoesOn}
use Rattle.proof_build.specs.ProofUnwind.Ties.Searches.{stage_of, exits_of}
use Rattle.proof_build.proofs.ProofUnwind.LoopLaws.{item_leaving, does_leave, followed_none, followed_more, followed_all}
use Rattle.proof_build.proofs.ProofUnwind.StageLaws.{Joined, goes_not, goes_on, exit_stays, call_stays_there, joined_stays, joined_by}
use Rattle.proof_build.proofs.proof_unwind.joining.join_before.Goals as goal

pub loop-call-init : goal.loop-call-init
loop-call-init c =
    followed_none (GoesOn c.args.graph.now c.args.union.now)
    (λ s e. (x : ℕ) → Member (exits_of c.args.exits.now e.2) x → Joined c.args.graph.now s x c.args.before e.1) (stage_of c.args.search.now) c.deref-call-items.result.now
    (goes_not c.args.graph.now c.args.union.now (stage_of c.args.search.now) c.requires.exploring)

pub join_call-requires-clause-called : goal.join_call-requires-clause-called
join_call-requires-clause-called c =
    let s : Stage = stage_of c.args.search.now in
    let is : c.deref-call-items.result.now ≡ leaving c.args.before s.steps.calls = c.deref-call-items.ensures.value ∙ c.in_ok-calls.ensures.items ∙ c.calls_leaving.ensures in
    call_stays_there c.args.graph.now c.args.union.now s (stage_of c.loop-call.search) c.args.before _ _ c.loop-call.invariant.goes
    (item_leaving c.deref-call-items.result.now s.steps.calls c.args.before c.loop-call.call-index _ is c.loop-call-test.true)

pub join_call-requires-clause-exits : goal.join_call-requires-clause-exits
join_call-requires-clause-exits c =
    λ x i. exit_stays (stage_of c.args.search.now) (stage_of c.loop-call.search) _ x c.loop-call.invariant.goes.grows (c.requires.exits _ x i)

pub loop-call-preserved : goal.loop-call-preserved
loop-call-preserved c =
    let m = c.args.graph.now in
    let b = c.args.union.now in
    let s : Stage = stage_of c.args.search.now in
    let t : Stage = stage_of c.loop-call.search in
    let is : c.deref-call-items.result.now ≡ leaving c.args.before s.steps.calls = c.deref-call-items.ensures.value ∙ c.in_ok-calls.ensures.items ∙ c.calls_leaving.ensures in
    followed_more (GoesOn m b) (λ u e. (x : ℕ) → Member (exits_of c.args.exits.now e.2) x → Joined m u x c.args.before e.1) s t (stage_of c.join_call.new.search)
    c.deref-call-items.result.now c.loop-call.call-index _ (goes_on m b)
    (λ u v e g h p x i. joined_stays m b u v x c.args.before e.1 g.exploring h.grows (p x i)) c.loop-call-test.true c.loop-call.invariant c.in_ok-join_call.ensures.0
    (λ x i. joined_by m b t (stage_of c.join_call.new.search) x c.args.before _ _ c.requires.graph c.loop-call.invariant.goes.exploring
    (exit_stays s t _ x c.loop-call.invariant.goes.grows (c.requires.exits _ x i)).there
    (call_stays_there m b s t c.args.before _ _ c.loop-call.invariant.goes
    (item_leaving c.deref-call-items.result.now s.steps.calls c.args.before c.loop-call.call-index _ is c.loop-call-test.true))
    c.in_ok-join_call.ensures.0 (c.in_ok-join_call.ensures.1 x i))

pub returns : goal.returns
returns c =
    let m = c.args.graph.now in
    let b = c.args.union.now in
    let s : Stage = stage_of c.args.search.now in
    let is : c.deref-call-items.result.now ≡ leaving c.args.before s.steps.calls = c.deref-call-items.ensures.value ∙ c.in_ok-calls.ensures.items ∙ c.calls_leaving.ensures in (
      c.loop-call.invariant.goes,
      λ a k i x j. (followed_all (GoesOn m b) (λ u e. (y : ℕ) → Member (exits_of c.args.exits.now e.2) y → Joined m u y c.args.before e.1) s (stage_of c.loop-call.search)
          c.deref-call-items.result.now c.loop-call.call-index (omega arith) c.loop-call.invariant (c.args.before, a, k)
          (subst (λ (l : List (ℕ × Letter × ℕ)). Member l (c.args.before, a, k)) (sym is) (does_leave c.args.before s.steps.calls a k i)) x j).backs,
    )

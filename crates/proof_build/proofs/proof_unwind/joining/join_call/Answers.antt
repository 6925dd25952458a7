use Rattle.std.proofs.Common.{ℕ, List, get_or, sym, subst, arith}
use Rattle.nwa_base.specs.Members.{Member}
use Rattle.proof_build.specs.ProofUnwind.Exploring.{Stage, GoesOn, IsExit}
use Rattle.proof_build.specs.ProofUnwind.Ties.Searches.{stage_of, exits_of}
use Rattle.proof_build.proofs.ProofUnwind.LoopLaws.{item, followed_none, followed_more, followed_all}
use Rattle.proof_build.proofs.ProofUnwind.StageLaws.{Joined, goes_not, goes_on, exit_stays, joined_stays, joined_by, call_stays_there}
use Rattle.proof_build.proofs.proof_unwind.joining.join_call.Goals as goal

pub loop-exit-init : goal.loop-exit-init
loop-exit-init c =
    followed_none (GoesOn c.args.graph.now c.args.union.now) (λ s x. Joined c.args.graph.now s x c.args.before c.args.call) (stage_of c.args.search.now) c.of-exit-items.result.now
    (goes_not c.args.graph.now c.args.union.now (stage_of c.args.search.now) c.requires.exploring)

pub join-requires-clause-there : goal.join-requires-clause-there
join-requires-clause-there c =
    let s : Stage = stage_of c.args.search.now in
    let x : ℕ = get_or c.of-exit-items.result.now c.loop-exit.exit-index 0 in
    let e : IsExit (stage_of c.loop-exit.search).nodes c.args.entry x = exit_stays s (stage_of c.loop-exit.search) c.args.entry x c.loop-exit.invariant.goes.grows
    (c.requires.exits x (item c.of-exit-items.result.now (exits_of c.args.exits.now c.args.entry) c.loop-exit.exit-index 0 c.of-exit-items.ensures c.loop-exit-test.true)) in
    e.there

pub join-requires-clause-opens : goal.join-requires-clause-opens
join-requires-clause-opens c =
    let s : Stage = stage_of c.args.search.now in
    let x : ℕ = get_or c.of-exit-items.result.now c.loop-exit.exit-index 0 in
    let e : IsExit (stage_of c.loop-exit.search).nodes c.args.entry x = exit_stays s (stage_of c.loop-exit.search) c.args.entry x c.loop-exit.invariant.goes.grows
    (c.requires.exits x (item c.of-exit-items.result.now (exits_of c.args.exits.now c.args.entry) c.loop-exit.exit-index 0 c.of-exit-items.ensures c.loop-exit-test.true)) in
    e.opens

pub join-requires-clause-called : goal.join-requires-clause-called
join-requires-clause-called c =
    let s : Stage = stage_of c.args.search.now in
    let t : Stage = stage_of c.loop-exit.search in
    let x : ℕ = get_or c.of-exit-items.result.now c.loop-exit.exit-index 0 in
    let e : IsExit t.nodes c.args.entry x = exit_stays s t c.args.entry x c.loop-exit.invariant.goes.grows
    (c.requires.exits x (item c.of-exit-items.result.now (exits_of c.args.exits.now c.args.entry) c.loop-exit.exit-index 0 c.of-exit-items.ensures c.loop-exit-test.true)) in
    subst (λ (k : ℕ). Member t.steps.calls (c.args.before, c.args.call, k)) (sym e.under)
    (call_stays_there c.args.graph.now c.args.union.now s t c.args.before c.args.call c.args.entry c.loop-exit.invariant.goes c.requires.called)

pub loop-exit-preserved : goal.loop-exit-preserved
loop-exit-preserved c =
    let m = c.args.graph.now in
    let b = c.args.union.now in
    let s : Stage = stage_of c.args.search.now in
    let t : Stage = stage_of c.loop-exit.search in
    let x : ℕ = get_or c.of-exit-items.result.now c.loop-exit.exit-index 0 in
    let e : IsExit t.nodes c.args.entry x = exit_stays s t c.args.entry x c.loop-exit.invariant.goes.grows
    (c.requires.exits x (item c.of-exit-items.result.now (exits_of c.args.exits.now c.args.entry) c.loop-exit.exit-index 0 c.of-exit-items.ensures c.loop-exit-test.true)) in
    followed_more (GoesOn m b) (λ u y. Joined m u y c.args.before c.args.call) s t (stage_of c.join.new.search) c.of-exit-items.result.now c.loop-exit.exit-index 0 (goes_on m b)
    (λ u v y g h p. joined_stays m b u v y c.args.before c.args.call g.exploring h.grows p) c.loop-exit-test.true c.loop-exit.invariant c.in_ok-join.ensures.0
    (joined_by m b t (stage_of c.join.new.search) x c.args.before c.args.call c.args.entry c.requires.graph c.loop-exit.invariant.goes.exploring e.there
    (call_stays_there m b s t c.args.before c.args.call c.args.entry c.loop-exit.invariant.goes c.requires.called) c.in_ok-join.ensures.0 c.in_ok-join.ensures.1)

pub returns : goal.returns
returns c =
    let m = c.args.graph.now in
    let b = c.args.union.now in (
      c.loop-exit.invariant.goes,
      λ x i. (followed_all (GoesOn m b) (λ u y. Joined m u y c.args.before c.args.call) (stage_of c.args.search.now) (stage_of c.loop-exit.search) c.of-exit-items.result.now
          c.loop-exit.exit-index (omega arith) c.loop-exit.invariant x (subst (λ (l : List ℕ). Member l x) (sym c.of-exit-items.ensures) i)).backs,
    )

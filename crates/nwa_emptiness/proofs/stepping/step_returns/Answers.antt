use Rattle.std.proofs.Common.{◌∙◌, ap, sym, arith}
use Rattle.nwa_base.specs.Automata.{Automaton}
use Rattle.nwa_emptiness.specs.Ties.Seen.{seen}
use Rattle.nwa_emptiness.specs.Ties.Steps.{CallersJoined}
use Rattle.nwa_emptiness.proofs.StepLemmas.{followed_more, followed_all}
use Rattle.nwa_emptiness.proofs.WalkLemmas.{item_entering, called_from, callers_later, callers_earlier, returns_done}
use Rattle.nwa_emptiness.proofs.stepping.step_returns.Goals as goal

pub join_callers-requires-clause-exit : goal.join_callers-requires-clause-exit
join_callers-requires-clause-exit c =
    let g = c.loop-before.invariant.keeps in
    called_from _ _ _ _ _ _ g c.requires.exit
    (item_entering _ _ _ _ _ _ c.calls_entering-before-items.ensures (ap (λ (m : Automaton). m.calls) (c.nwa.ensures ∙ sym g.nwa)) c.loop-before-test.true)

pub loop-before-preserved : goal.loop-before-preserved
loop-before-preserved c =
    let a = seen c.args.search.now in
    let r = c.in_ok-join_callers.ensures in
    followed_more a _ _ _ _ _ (λ s e. CallersJoined a s e.0 c.args.exit) c.loop-before-test.true
    (λ s t e g h. callers_later a s t _ _ g h) c.loop-before.invariant r.0
    (callers_earlier a (seen c.loop-before.search) (seen c.join_callers.new.search) _ _ c.loop-before.invariant.keeps r.1)

pub returns : goal.returns
returns c =
    let a = seen c.args.search.now in let b = seen c.loop-before.search in (
      c.loop-before.invariant.keeps,
      returns_done a b c.args.exit c.args.entry _ _ c.calls_entering-before-items.ensures (ap (λ (m : Automaton). m.calls) c.nwa.ensures)
          (followed_all a b _ _ (λ s e. CallersJoined a s e.0 c.args.exit) (omega arith) c.loop-before.invariant),
    )

use Rattle.std.proofs.Common.{◌∙◌, ap, sym, arith, Some}
use Rattle.nwa_base.specs.Members.{Member}
use Rattle.nwa_base.specs.Automata.{Automaton}
use Rattle.nwa_emptiness.specs.Ties.Seen.{seen}
use Rattle.nwa_emptiness.specs.Ties.Steps.{ExitsJoined}
use Rattle.nwa_emptiness.proofs.SearchLemmas.{member_kept}
use Rattle.nwa_emptiness.proofs.StepLemmas.{followed_more, followed_all}
use Rattle.nwa_emptiness.proofs.WalkLemmas.{item_leaving, called_point, exits_later, exits_earlier, calls_done}
use Rattle.nwa_emptiness.proofs.stepping.step_calls.Goals as goal

pub step_call-requires-clause-caller : goal.step_call-requires-clause-caller
step_call-requires-clause-caller c =
    let g = c.loop-call.invariant.keeps in
    called_point _ _ c.args.point _ _ g c.requires.point
    (item_leaving _ _ _ _ _ _ c.calls_leaving-call-items.ensures (ap (λ (m : Automaton). m.calls) (c.nwa.ensures ∙ sym g.nwa)) c.loop-call-test.true)

pub loop-call-preserved : goal.loop-call-preserved
loop-call-preserved c =
    let a = seen c.args.search.now in
    let r = c.in_ok-step_call.ensures in
    followed_more a _ _ _ _ _ (λ s e. Member s.pairs (Some e.2, e.2) × ExitsJoined a s c.args.point.place e.2) c.loop-call-test.true
    (λ s t e g h. (member_kept s t _ g h.0, exits_later a s t _ _ g h.1)) c.loop-call.invariant r.0
    (r.1, exits_earlier a (seen c.loop-call.search) (seen c.step_call.new.search) _ _ c.loop-call.invariant.keeps r.2)

pub returns : goal.returns
returns c =
    let a = seen c.args.search.now in let b = seen c.loop-call.search in (
      c.loop-call.invariant.keeps,
      calls_done a b c.args.point _ _ c.calls_leaving-call-items.ensures (ap (λ (m : Automaton). m.calls) c.nwa.ensures)
          (followed_all a b _ _ (λ s e. Member s.pairs (Some e.2, e.2) × ExitsJoined a s c.args.point.place e.2) (omega arith) c.loop-call.invariant),
    )

use Rattle.std.proofs.Common.{ap, arith}
use Rattle.nwa_base.specs.Automata.{Automaton}
use Rattle.nwa_difference.specs.Ties.Making.{Extends, Only, NoReturn, HasCall}
use Rattle.nwa_difference.specs.Ties.Seen.{seen}
use Rattle.nwa_difference.proofs.GrowingLemmas.{extends_on, extends_not, within_stays}
use Rattle.nwa_difference.proofs.FollowLemmas.{followed_none, followed_more, followed_all}
use Rattle.nwa_difference.proofs.OpeningLemmas.{one_call_stays, call_now, calls_made}
use Rattle.nwa_difference.proofs.opening.make_calls.Goals as goal

pub loop-letter-init : goal.loop-letter-init
loop-letter-init c =
    let a = seen c.args.product.now in
    followed_none (λ s t. Extends s t (Only c.args.state) NoReturn) (λ s e. HasCall s c.args.state e.1 e.2) a c.calls_leaving-letter-items.result.now
    (extends_not a (Only c.args.state) NoReturn c.requires.made)

pub add_call-requires-clause-within : goal.add_call-requires-clause-within
add_call-requires-clause-within c =
    within_stays (seen c.args.product.now) _ (Only c.args.state) NoReturn c.args.state c.loop-letter.invariant.goes c.requires.within

pub add_call-requires-clause-edge : goal.add_call-requires-clause-edge
add_call-requires-clause-edge c =
    call_now (seen c.args.product.now) _ (Only c.args.state) NoReturn c.requires.made c.loop-letter.invariant.goes c.args.state c.parts-first.result _ _ _ _
    c.requires.within c.parts-first.ensures c.calls_leaving-letter-items.ensures (ap (λ (m : Automaton). m.calls) c.first.ensures) c.loop-letter-test.true

pub loop-letter-preserved : goal.loop-letter-preserved
loop-letter-preserved c =
    let a = seen c.args.product.now in
    followed_more (λ s t. Extends s t (Only c.args.state) NoReturn) (λ s e. HasCall s c.args.state e.1 e.2) a (seen c.loop-letter.product)
    (seen c.add_call.new.self) _ _ _ (λ s t u g h. extends_on s t u (Only c.args.state) NoReturn g h)
    (λ s t z g h m. one_call_stays s t (Only c.args.state) NoReturn g.made h c.args.state z m) c.loop-letter-test.true c.loop-letter.invariant
    c.in_ok-add_call.ensures.0 c.in_ok-add_call.ensures.1

pub returns : goal.returns
returns c =
    let a = seen c.args.product.now in let b = seen c.loop-letter.product in (
      c.loop-letter.invariant.goes,
      calls_made a b (Only c.args.state) NoReturn c.requires.made c.loop-letter.invariant.goes c.args.state c.parts-first.result _ _ c.requires.within
          c.parts-first.ensures c.calls_leaving-letter-items.ensures (ap (λ (m : Automaton). m.calls) c.first.ensures)
          (followed_all (λ s t. Extends s t (Only c.args.state) NoReturn) (λ s e. HasCall s c.args.state e.1 e.2) a b _ _ (omega arith) c.loop-letter.invariant),
    )

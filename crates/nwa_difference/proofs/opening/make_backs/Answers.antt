use Rattle.std.proofs.Common.{ap, arith}
use Rattle.nwa_base.specs.Automata.{Automaton}
use Rattle.nwa_difference.specs.Ties.Making.{Extends, Nowhere, OnlyReturn, HasBack}
use Rattle.nwa_difference.specs.Ties.Seen.{seen}
use Rattle.nwa_difference.proofs.GrowingLemmas.{extends_on, extends_not, within_stays}
use Rattle.nwa_difference.proofs.FollowLemmas.{followed_none, followed_more, followed_all}
use Rattle.nwa_difference.proofs.OpeningLemmas.{one_back_stays, back_now, backs_made}
use Rattle.nwa_difference.proofs.opening.make_backs.Goals as goal

pub loop-letter-init : goal.loop-letter-init
loop-letter-init c =
    let a = seen c.args.product.now in
    followed_none (λ s t. Extends s t Nowhere (OnlyReturn c.args.state c.args.before)) (λ s e. HasBack s c.args.state c.args.before e.2 e.3) a
    c.backs_between-letter-items.result.now (extends_not a Nowhere (OnlyReturn c.args.state c.args.before) c.requires.made)

pub add_back-requires-clause-within : goal.add_back-requires-clause-within
add_back-requires-clause-within c =
    within_stays (seen c.args.product.now) _ Nowhere (OnlyReturn c.args.state c.args.before) c.args.state c.loop-letter.invariant.goes c.requires.within

pub add_back-requires-clause-before : goal.add_back-requires-clause-before
add_back-requires-clause-before c =
    within_stays (seen c.args.product.now) _ Nowhere (OnlyReturn c.args.state c.args.before) c.args.before c.loop-letter.invariant.goes c.requires.before

pub add_back-requires-clause-edge : goal.add_back-requires-clause-edge
add_back-requires-clause-edge c =
    back_now (seen c.args.product.now) _ Nowhere (OnlyReturn c.args.state c.args.before) c.requires.made c.loop-letter.invariant.goes c.args.state c.args.before
    c.parts-exit.result c.parts-outer.result _ _ _ _ c.requires.within c.requires.before c.parts-exit.ensures c.parts-outer.ensures
    c.backs_between-letter-items.ensures (ap (λ (m : Automaton). m.backs) c.first.ensures) c.loop-letter-test.true

pub loop-letter-preserved : goal.loop-letter-preserved
loop-letter-preserved c =
    let a = seen c.args.product.now in
    followed_more (λ s t. Extends s t Nowhere (OnlyReturn c.args.state c.args.before)) (λ s e. HasBack s c.args.state c.args.before e.2 e.3) a
    (seen c.loop-letter.product) (seen c.add_back.new.self) _ _ _ (λ s t u g h. extends_on s t u Nowhere (OnlyReturn c.args.state c.args.before) g h)
    (λ s t z g h m. one_back_stays s t Nowhere (OnlyReturn c.args.state c.args.before) g.made h c.args.state c.args.before z m) c.loop-letter-test.true
    c.loop-letter.invariant c.in_ok-add_back.ensures.0 c.in_ok-add_back.ensures.1

pub returns : goal.returns
returns c =
    let a = seen c.args.product.now in let b = seen c.loop-letter.product in (
      c.loop-letter.invariant.goes,
      backs_made a b Nowhere (OnlyReturn c.args.state c.args.before) c.requires.made c.loop-letter.invariant.goes c.args.state c.args.before c.parts-exit.result
          c.parts-outer.result _ _ c.requires.within c.requires.before c.parts-exit.ensures c.parts-outer.ensures c.backs_between-letter-items.ensures
          (ap (λ (m : Automaton). m.backs) c.first.ensures)
          (followed_all (λ s t. Extends s t Nowhere (OnlyReturn c.args.state c.args.before)) (λ s e. HasBack s c.args.state c.args.before e.2 e.3) a b _ _
          (omega arith) c.loop-letter.invariant),
    )

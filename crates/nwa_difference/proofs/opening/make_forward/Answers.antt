use Rattle.nwa_difference.specs.Ties.Making.{Only, NoReturn}
use Rattle.nwa_difference.specs.Ties.Seen.{seen}
use Rattle.nwa_difference.proofs.GrowingLemmas.{extends_on, within_stays}
use Rattle.nwa_difference.proofs.OpeningLemmas.{insides_stay}
use Rattle.nwa_difference.proofs.opening.make_forward.Goals as goal

pub make_calls-requires-clause-within : goal.make_calls-requires-clause-within
make_calls-requires-clause-within c =
    within_stays (seen c.args.product.now) _ (Only c.args.state) NoReturn c.args.state c.in_ok-make_insides.ensures.0 c.requires.within

pub returns : goal.returns
returns c =
    let a = seen c.args.product.now in
    let b = seen c.make_insides.new.product in
    let d = seen c.make_calls.new.product in
    let g = c.in_ok-make_insides.ensures in
    let h = c.in_ok-make_calls.ensures in (
      extends_on a b d (Only c.args.state) NoReturn g.0 h.0,
      insides_stay b d (Only c.args.state) NoReturn g.0.made h.0 c.args.state (within_stays a b (Only c.args.state) NoReturn c.args.state g.0 c.requires.within) g.1,
      h.1,
    )

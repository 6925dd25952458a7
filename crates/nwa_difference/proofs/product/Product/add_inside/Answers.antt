use Rattle.nwa_difference.specs.Ties.Seen.{seen}
use Rattle.nwa_difference.specs.Ties.Making.{Only, NoReturn}
use Rattle.nwa_difference.proofs.GrowingLemmas.{extends_more}
use Rattle.nwa_difference.proofs.AddLemmas.{inside_step}
use Rattle.nwa_difference.proofs.FitLemmas.{inside_state, inside_letter}
use Rattle.nwa_difference.proofs.product.Product.add_inside.Goals as goal

pub in_memory-requires-clause-state : goal.in_memory-requires-clause-state
unfolding seen
in_memory-requires-clause-state c =
    inside_state (seen c.args.self.now) (seen c.inside_end.new.self) c.args.state c.args.letter c.args.end c.in-Some.to c.add_inside.result
    c.requires.within c.in_ok-to.ensures.extends (rw c.in-Some.is at c.in_ok-to.ensures.state) c.add_inside.ensures.bad_state

pub in_memory-requires-clause-letter : goal.in_memory-requires-clause-letter
unfolding seen
in_memory-requires-clause-letter c =
    inside_letter c.args.self.now.first.now _ c.args.end c.args.letter _ _ _ c.add_inside.result c.states-states.ensures.valid c.requires.edge c.add_inside.ensures.bad_letter

pub returns : goal.returns
unfolding seen
returns c =
    inside_step (seen c.args.self.now) (seen c.inside_end.new.self) c.args.state c.args.letter c.args.end c.in-Some.to _ c.add_inside.result _
    c.requires.within c.requires.edge c.in_ok-to.ensures.extends (rw c.in-Some.is at c.in_ok-to.ensures.state) c.in_ok-in_memory.ensures c.add_inside.ensures.ok
    c.add_inside.ensures.bad_letter

pub returns-in_default : goal.returns-in_default
unfolding seen
returns-in_default c = (
  extends_more (seen c.args.self.now) (seen c.inside_end.new.self) (Only c.args.state) NoReturn c.in_ok-to.ensures.extends,
  rw c.in_default.is at c.in_ok-to.ensures.state,
)

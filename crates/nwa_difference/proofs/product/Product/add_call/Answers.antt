use Rattle.nwa_difference.specs.Ties.Seen.{seen}
use Rattle.nwa_difference.specs.Ties.Making.{Only, NoReturn}
use Rattle.nwa_difference.proofs.GrowingLemmas.{extends_more}
use Rattle.nwa_difference.proofs.AddLemmas.{call_step}
use Rattle.nwa_difference.proofs.FitLemmas.{call_state, call_letter}
use Rattle.nwa_difference.proofs.product.Product.add_call.Goals as goal

pub in_memory-requires-clause-state : goal.in_memory-requires-clause-state
unfolding seen
in_memory-requires-clause-state c =
    call_state (seen c.args.self.now) (seen c.call_end.new.self) c.args.state c.args.letter c.args.end c.in-Some.to c.add_call.result
    c.requires.within c.in_ok-to.ensures.extends (rw c.in-Some.is at c.in_ok-to.ensures.state) c.add_call.ensures.bad_state

pub in_memory-requires-clause-letter : goal.in_memory-requires-clause-letter
unfolding seen
in_memory-requires-clause-letter c =
    call_letter c.args.self.now.first.now _ c.args.end c.args.letter _ _ _ c.add_call.result c.states-states.ensures.valid c.requires.edge c.add_call.ensures.bad_letter

pub returns : goal.returns
unfolding seen
returns c =
    call_step (seen c.args.self.now) (seen c.call_end.new.self) c.args.state c.args.letter c.args.end c.in-Some.to _ c.add_call.result _
    c.requires.within c.requires.edge c.in_ok-to.ensures.extends (rw c.in-Some.is at c.in_ok-to.ensures.state) c.in_ok-in_memory.ensures c.add_call.ensures.ok
    c.add_call.ensures.bad_letter

pub returns-in_default : goal.returns-in_default
unfolding seen
returns-in_default c = (
  extends_more (seen c.args.self.now) (seen c.call_end.new.self) (Only c.args.state) NoReturn c.in_ok-to.ensures.extends,
  rw c.in_default.is at c.in_ok-to.ensures.state,
)

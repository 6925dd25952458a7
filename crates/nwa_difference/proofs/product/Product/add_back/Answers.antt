use Rattle.nwa_difference.specs.Ties.Seen.{seen}
use Rattle.nwa_difference.specs.Ties.Making.{Nowhere, OnlyReturn}
use Rattle.nwa_difference.proofs.GrowingLemmas.{extends_more}
use Rattle.nwa_difference.proofs.AddLemmas.{back_step}
use Rattle.nwa_difference.proofs.FitLemmas.{back_state, back_letter}
use Rattle.nwa_difference.proofs.product.Product.add_back.Goals as goal

pub in_memory-requires-clause-state : goal.in_memory-requires-clause-state
unfolding seen
in_memory-requires-clause-state c =
    back_state (seen c.args.self.now) (seen c.back_end.new.self) c.args.state c.args.before c.args.letter c.args.end c.in-Some.to c.add_back.result
    c.requires.within c.requires.before c.in_ok-to.ensures.extends (rw c.in-Some.is at c.in_ok-to.ensures.state) c.add_back.ensures.bad_state

pub in_memory-requires-clause-letter : goal.in_memory-requires-clause-letter
unfolding seen
in_memory-requires-clause-letter c =
    back_letter c.args.self.now.first.now _ _ c.args.end c.args.letter _ _ _ _ c.add_back.result c.states-states.ensures.valid c.requires.edge c.add_back.ensures.bad_letter

pub returns : goal.returns
unfolding seen
returns c =
    back_step (seen c.args.self.now) (seen c.back_end.new.self) c.args.state c.args.before c.args.letter c.args.end c.in-Some.to _ c.add_back.result _
    c.requires.within c.requires.before c.requires.edge c.in_ok-to.ensures.extends (rw c.in-Some.is at c.in_ok-to.ensures.state) c.in_ok-in_memory.ensures c.add_back.ensures.ok
    c.add_back.ensures.bad_letter

pub returns-in_default : goal.returns-in_default
unfolding seen
returns-in_default c = (
  extends_more (seen c.args.self.now) (seen c.back_end.new.self) Nowhere (OnlyReturn c.args.state c.args.before) c.in_ok-to.ensures.extends,
  rw c.in_default.is at c.in_ok-to.ensures.state,
)

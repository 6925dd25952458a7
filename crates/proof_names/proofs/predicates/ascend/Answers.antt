use Rattle.proof_names.proofs.AtomLaws.{ascends_end}
use Rattle.proof_names.proofs.predicates.ascend.Goals as goal

pub returns : goal.returns
returns c = ascends_end c.args.terms.now c.loop-i.i c.loop-i.invariant c.loop-i.auto.i c.loop-i-test.false

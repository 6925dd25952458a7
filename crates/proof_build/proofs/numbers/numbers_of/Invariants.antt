use Rattle.std.proofs.Common.{take}
use Rattle.proof_names.specs.ProofSpell.Correspond.{Correspond}
use Rattle.proof_build.proofs.NumberLaws.{HasItsNumber}
use Rattle.proof_build.proofs.numbers.numbers_of.Given as goal

abbrev pub invariant-loop-state : goal.invariant-loop-state
invariant-loop-state l = Correspond (HasItsNumber l.preds) l.numbers.items (take l.state-index l.states)

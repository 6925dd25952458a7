use Rattle.std.proofs.Common.{take}
use Rattle.letter_acts.specs.Invariant.{alphabet_of}
use Rattle.nested_itp.specs.Ties.Proofs.{AreProofsOf}
use Rattle.nested_itp.proofs.making.proofs.Given as goal

abbrev pub invariant-loop-at : goal.invariant-loop-at
invariant-loop-at l = AreProofsOf (alphabet_of l.icfg) (take l.at l.triples) l.proofs.items

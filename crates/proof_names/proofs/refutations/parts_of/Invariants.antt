use Rattle.proof_names.specs.Refutations.{named_part}
use Rattle.proof_names.proofs.AllLaws.{Found}
use Rattle.proof_names.proofs.refutations.parts_of.Given as goal

abbrev pub invariant-loop-part : goal.invariant-loop-part
invariant-loop-part l = Found named_part l.parts l.part-index l.named.items

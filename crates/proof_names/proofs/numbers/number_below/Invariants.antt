use Rattle.proof_names.proofs.NumberLaws.{Reads}
use Rattle.proof_names.proofs.numbers.number_below.Given as goal

abbrev pub invariant-loop-digit : goal.invariant-loop-digit
invariant-loop-digit l = Reads l.digits l.digit-index l.value

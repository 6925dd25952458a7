use Rattle.proof_names.specs.Numbers.{index_in}
use Rattle.proof_names.proofs.AllLaws.{Found}
use Rattle.proof_names.proofs.nodes.numbers_of.Given as goal

abbrev pub invariant-loop-numeral : goal.invariant-loop-numeral
invariant-loop-numeral l = Found index_in l.numerals l.numeral-index l.numbers.items

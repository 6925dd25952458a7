use Rattle.proof_form.proofs.OneLaws.{one_numeral, one_predicate, one_refutation}
use Rattle.proof_form.proofs.laws.values_have_one_spelling.Goals as goal

pub returns-clause-numerals : goal.returns-clause-numerals
returns-clause-numerals c = one_numeral

pub returns-clause-predicates : goal.returns-clause-predicates
returns-clause-predicates c = one_predicate

pub returns-clause-refutations : goal.returns-clause-refutations
returns-clause-refutations c = one_refutation

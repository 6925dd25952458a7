use Rattle.nested_itp.proofs.NestedPredicates.SpellingLaws.{predicate_spells}
use Rattle.nested_itp.proofs.nested_predicates.laws.prefix_predicates_are_predicates.Goals as goal

pub returns : goal.returns
returns c = predicate_spells

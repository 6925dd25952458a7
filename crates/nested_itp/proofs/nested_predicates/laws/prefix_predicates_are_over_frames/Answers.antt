use Rattle.nested_itp.proofs.NestedPredicates.SpellingLaws.{predicate_over}
use Rattle.nested_itp.proofs.nested_predicates.laws.prefix_predicates_are_over_frames.Goals as goal

pub returns : goal.returns
returns c = predicate_over

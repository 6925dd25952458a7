use Rattle.nested_itp.proofs.NestedPredicates.EndLaws.{begins_true}
use Rattle.nested_itp.proofs.nested_predicates.laws.first_predicate_is_true.Goals as goal

pub returns : goal.returns
returns c = begins_true

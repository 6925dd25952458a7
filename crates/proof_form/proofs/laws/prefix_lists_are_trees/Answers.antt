use Rattle.proof_form.proofs.ForestLaws.{tree_is_whole, whole_is_tree}
use Rattle.proof_form.proofs.laws.prefix_lists_are_trees.Goals as goal

pub returns-clause-spelled : goal.returns-clause-spelled
returns-clause-spelled c = tree_is_whole

pub returns-clause-predicates : goal.returns-clause-predicates
returns-clause-predicates c = tree_is_whole

pub returns-clause-refutation_trees : goal.returns-clause-refutation_trees
returns-clause-refutation_trees c = whole_is_tree

pub returns-clause-predicate_trees : goal.returns-clause-predicate_trees
returns-clause-predicate_trees c = whole_is_tree

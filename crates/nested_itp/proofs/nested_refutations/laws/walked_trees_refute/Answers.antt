use Rattle.nested_itp.proofs.NestedRefutations.TripleLaws.{steps_walked}
use Rattle.nested_itp.proofs.nested_refutations.laws.walked_trees_refute.Goals as goal

pub returns : goal.returns
returns c = steps_walked

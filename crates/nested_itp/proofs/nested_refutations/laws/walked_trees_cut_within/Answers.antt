use Rattle.nested_itp.proofs.NestedRefutations.WalkedCutLaws.{steps_cut}
use Rattle.nested_itp.proofs.nested_refutations.laws.walked_trees_cut_within.Goals as goal

pub returns : goal.returns
returns c = steps_cut

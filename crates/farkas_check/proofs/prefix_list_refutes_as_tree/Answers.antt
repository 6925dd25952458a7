use Rattle.farkas_check.proofs.TreeLaws.{refutes_as_tree}
use Rattle.farkas_check.proofs.prefix_list_refutes_as_tree.Goals as goal

pub returns : goal.returns
returns c = refutes_as_tree

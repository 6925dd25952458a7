use Rattle.typed_tree.proofs.Euclidean.{euclidean}
use Rattle.typed_tree.proofs.laws.div_and_mod.Goals as goal

pub returns : goal.returns
returns c = euclidean

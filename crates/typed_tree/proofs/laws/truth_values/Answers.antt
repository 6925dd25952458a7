use Rattle.typed_tree.proofs.Truths.{truth_value}
use Rattle.typed_tree.proofs.laws.truth_values.Goals as goal

pub returns : goal.returns
returns c = truth_value

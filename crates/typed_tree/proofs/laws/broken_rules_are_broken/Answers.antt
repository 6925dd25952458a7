use Rattle.std.proofs.Common.{false}
use Rattle.typed_tree.proofs.Broken.{not_kept}
use Rattle.typed_tree.proofs.laws.broken_rules_are_broken.Goals as goal

pub returns : goal.returns
returns c = λ s. not_kept s false

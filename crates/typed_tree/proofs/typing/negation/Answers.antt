use Rattle.typed_tree.proofs.Parts.{no_truth_part}
use Rattle.typed_tree.proofs.typing.negation.Goals as goal

pub returns-in-Int : goal.returns-in-Int
returns-in-Int c = λ s old e h. no_truth_part s old c.args.at e c.args.part.now h c.in-Int.is

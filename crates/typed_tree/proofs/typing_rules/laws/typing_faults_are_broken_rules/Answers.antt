use Rattle.typed_tree.proofs.TypingRules.BrokenLaws.{program_refuted}
use Rattle.typed_tree.proofs.typing_rules.laws.typing_faults_are_broken_rules.Goals as goal

pub returns : goal.returns
returns c = program_refuted

use Rattle.typed_tree.proofs.TypingRules.SeenLaws.{seen, no_old}
use Rattle.typed_tree.proofs.typing_rules.laws.typed_expressions_read_what_is_seen.Goals as goal

pub returns-clause-columns : goal.returns-clause-columns
returns-clause-columns c = seen

pub returns-clause-old : goal.returns-clause-old
returns-clause-old c = no_old

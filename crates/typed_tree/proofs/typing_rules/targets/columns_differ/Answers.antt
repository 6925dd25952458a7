use Rattle.std.proofs.Common.{rules}
use Rattle.typed_tree.proofs.TypingRules.Columns.{keys_differ}
use Rattle.typed_tree.proofs.typing_rules.targets.columns_differ.Goals as goal

pub returns : goal.returns
returns c = search (rules, keys_differ)

use Rattle.std.proofs.Common.{rules}
use Rattle.typed_tree.proofs.TypingRules.Agreed.{value_count_fault, value_at_fault, unseen_value_fault}
use Rattle.typed_tree.proofs.typing_rules.statements.values.Goals as goal

pub returns-then-columns-values : goal.returns-then-columns-values
returns-then-columns-values c = search (rules, value_count_fault)

pub returns-in_default : goal.returns-in_default
returns-in_default c = search (rules, unseen_value_fault)

pub returns-in_err-value : goal.returns-in_err-value
returns-in_err-value c = search (rules, value_at_fault)

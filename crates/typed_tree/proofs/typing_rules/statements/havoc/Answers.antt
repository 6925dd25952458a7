use Rattle.typed_tree.proofs.TypingRules.StatementParts.{nothing_chosen_fault, havoc_judged}
use Rattle.typed_tree.proofs.typing_rules.statements.havoc.Goals as goal

pub returns-then-is_empty : goal.returns-then-is_empty
returns-then-is_empty c = nothing_chosen_fault _ _ _ _ c.is_empty.ensures c.if-is_empty.true

pub returns-else-is_empty : goal.returns-else-is_empty
returns-else-is_empty c = havoc_judged _ _ _ _ _ c.is_empty.ensures c.if-is_empty.false c.targets.ensures

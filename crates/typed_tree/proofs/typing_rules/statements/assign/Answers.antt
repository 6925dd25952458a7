use Rattle.std.proofs.Common.{rules}
use Rattle.typed_tree.proofs.TypingRules.StatementParts.{nothing_assigned_fault, assign_target_fault, assign_judged}
use Rattle.typed_tree.proofs.typing_rules.statements.assign.Goals as goal

pub returns-then-is_empty : goal.returns-then-is_empty
returns-then-is_empty c = nothing_assigned_fault _ _ _ _ _ c.is_empty.ensures c.if-is_empty.true

pub returns-in_err-targets : goal.returns-in_err-targets
returns-in_err-targets c = search (rules, assign_target_fault)

pub returns : goal.returns
returns c = assign_judged _ _ _ _ _ _ c.is_empty.ensures c.if-is_empty.false c.in_ok-targets.ensures c.values.ensures

use Rattle.std.proofs.Common.{sym, ◌∙◌}
use Rattle.typed_tree.specs.TypingRules.Ties.Judged.{context}
use Rattle.typed_tree.proofs.TypingRules.StatementParts.{nowhere_fault, goto_kept, unreachable_fault}
use Rattle.typed_tree.proofs.typing_rules.statements.goto.Goals as goal

pub returns-then-is_empty : goal.returns-then-is_empty
returns-then-is_empty c = nowhere_fault _ _ _ _ c.is_empty.ensures c.if-is_empty.true

pub returns-then-all_named : goal.returns-then-all_named
returns-then-all_named c =
    goto_kept (context c.args.frame.now) c.args.at _ _ c.is_empty.ensures c.if-is_empty.false (sym c.all_named.ensures ∙ c.if-all_named.true)

pub returns-else-all_named : goal.returns-else-all_named
returns-else-all_named c = unreachable_fault _ _ _ (sym c.all_named.ensures ∙ c.if-all_named.false)

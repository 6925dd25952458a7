use Rattle.std.proofs.Common.{sym, ◌∙◌}
use Rattle.typed_tree.proofs.TypingRules.Faults.{modified_fault}
use Rattle.typed_tree.proofs.typing_rules.calls.modified.Goals as goal

pub returns-else-all_listed : goal.returns-else-all_listed
returns-else-all_listed c =
    modified_fault _ _ _ _ _ c.deref.result.now c.deref.ensures.value (sym c.all_listed.ensures ∙ c.if-all_listed.false)

use Rattle.typed_tree.proofs.TypingRules.StatementParts.{no_loop_fault}
use Rattle.typed_tree.proofs.typing_rules.statements.leave.Goals as goal

pub returns-else-further-frame : goal.returns-else-further-frame
returns-else-further-frame c = no_loop_fault _ _ _ c.if-further-frame.false

use Rattle.boogie_tree.proofs.Loops.{else_there}
use Rattle.boogie_tree.proofs.printing.statements.else_line.Goals as goal

pub returns-in-len1-up : goal.returns-in-len1-up
returns-in-len1-up c = else_there _ _ _ _ _ c.in-len1-up.len_at_least c.plain_line.ensures

use Rattle.std.proofs.Common.{rules}
use Rattle.typed_tree.proofs.TypingRules.Faults.{guard_fault}
use Rattle.typed_tree.proofs.typing_rules.values.guard.Goals as goal

pub returns-in-Cond : goal.returns-in-Cond
returns-in-Cond c = search (rules, guard_fault)

use Rattle.std.proofs.Common.{rules}
use Rattle.typed_tree.proofs.TypingRules.Faults.{written_fault, repeated_fault}
use Rattle.typed_tree.proofs.typing_rules.targets.targets.Goals as goal

pub returns-in_err-writable : goal.returns-in_err-writable
returns-in_err-writable c = search (rules, written_fault)

pub returns-else-branch : goal.returns-else-branch
returns-else-branch c = search (rules, repeated_fault)

use Rattle.std.proofs.Common.{rules}
use Rattle.typed_tree.proofs.TypingRules.Faults.{item_fault}
use Rattle.typed_tree.proofs.typing_rules.procedures.specifications.Goals as goal

pub returns-in_err-specification : goal.returns-in_err-specification
returns-in_err-specification c = search (rules, item_fault)

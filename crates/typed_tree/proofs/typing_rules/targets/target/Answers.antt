use Rattle.std.proofs.Common.{rules, inr, sym, ◌∙◌}
use Rattle.typed_tree.specs.TypingRules.BrokenTyping.{unseen, constant}
use Rattle.typed_tree.proofs.TypingRules.Faults.{unlisted_fault}
use Rattle.typed_tree.proofs.typing_rules.targets.target.Goals as goal

pub returns-in_default : goal.returns-in_default
returns-in_default c = search (rules, inr, unseen)

pub returns-then-found : goal.returns-then-found
returns-then-found c = search (rules, inr, constant)

pub returns-else-has : goal.returns-else-has
returns-else-has c =
    unlisted_fault _ _ _ c.in-Global.number c.in-Some.found.now c.in-Global.is c.in-Some.ensures (sym c.has.ensures ∙ c.if-has.false)

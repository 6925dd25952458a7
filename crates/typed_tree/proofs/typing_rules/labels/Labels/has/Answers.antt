use Rattle.std.proofs.Common.{arith}
use Rattle.std.proofs.lemmas.Grind.{common_steps}
use Rattle.typed_tree.proofs.TypingRules.Counted.{member_counted}
use Rattle.typed_tree.proofs.typing_rules.labels.Labels.has.Goals as goal

pub returns : goal.returns
returns c =
    let counted = member_counted c.args.label c.self.inside.stack.items in
    let number = c.self.invariant c.args.label in
    grind (arith, common_steps, counted, number, c.self.view_is)

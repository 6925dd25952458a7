use Rattle.std.proofs.Common.{ap, inr, sym, ◌∙◌}
use Rattle.std.specs.Option.{option_copied}
use Rattle.typed_tree.specs.BrokenRules.{unseen}
use Rattle.typed_tree.proofs.typing.variable.Goals as goal

pub returns-in_default : goal.returns-in_default
returns-in_default c = inr (unseen c.args.old c.args.at c.args.column (sym c.variable_at.ensures ∙ ap option_copied c.in_default.is))

use Rattle.std.proofs.Common.{is_some, ap, ◌∙◌}
use Rattle.typed_tree.specs.TypedView as view
use Rattle.typed_tree.specs.TypingRules.Shape.{block_labels}
use Rattle.typed_tree.proofs.TypingRules.LabelLaws.{counts_some}
use Rattle.typed_tree.proofs.typing_rules.shape.counts_up.Goals as goal

pub returns : goal.returns
returns c =
    c.is_some.ensures ∙ ap is_some c.block_labels.ensures ∙ counts_some 0 (block_labels (view.statements c.args.listed.now))

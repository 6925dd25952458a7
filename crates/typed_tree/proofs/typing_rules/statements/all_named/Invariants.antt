use Rattle.std.proofs.Common.{◌≡◌, drop}
use Rattle.std.specs.List.{list_all}
use Rattle.typed_tree.specs.TypingRules.Rules.{is_member}
use Rattle.typed_tree.proofs.typing_rules.statements.all_named.Given as goal

abbrev pub invariant-loop-label : goal.invariant-loop-label
invariant-loop-label l = list_all (λ n. is_member n l.frame.labels) (drop l.label-index l.labels) ≡ list_all (λ n. is_member n l.frame.labels) l.labels

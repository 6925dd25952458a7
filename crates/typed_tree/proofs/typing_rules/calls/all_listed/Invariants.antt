use Rattle.std.proofs.Common.{◌≡◌, drop}
use Rattle.std.specs.List.{list_all}
use Rattle.typed_tree.specs.TypingRules.Rules.{is_member}
use Rattle.typed_tree.proofs.typing_rules.calls.all_listed.Given as goal

abbrev pub invariant-loop-number : goal.invariant-loop-number
invariant-loop-number l = list_all (λ n. is_member n l.frame.modifies) (drop l.number-index l.numbers) ≡ list_all (λ n. is_member n l.frame.modifies) l.numbers

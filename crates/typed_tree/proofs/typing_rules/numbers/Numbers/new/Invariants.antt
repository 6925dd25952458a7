use Rattle.std.proofs.Common.{◌≡◌, nat_eq, ℕ, take}
use Rattle.std.specs.HashSet.{contains}
use Rattle.typed_tree.specs.TypingRules.Rules.{is_member}
use Rattle.typed_tree.proofs.typing_rules.numbers.Numbers.new.Given as goal

abbrev pub invariant-loop-number : goal.invariant-loop-number
invariant-loop-number l = (q : ℕ) → contains nat_eq l.found q ≡ is_member q (take l.number-index l.listed)

use Rattle.std.proofs.Common.{◌≡◌, nat_eq, ℕ, true, take}
use Rattle.std.specs.HashSet.{contains}
use Rattle.typed_tree.specs.TypingRules.Rules.{all_differ, is_member}
use Rattle.typed_tree.proofs.typing_rules.numbers.differ.Given as goal

abbrev pub invariant-loop-number : goal.invariant-loop-number
invariant-loop-number l = record {
  found : (q : ℕ) → contains nat_eq l.found q ≡ is_member q (take l.number-index l.numbers);
  differ : all_differ nat_eq (take l.number-index l.numbers) ≡ true;
}

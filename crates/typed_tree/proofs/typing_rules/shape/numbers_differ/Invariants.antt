use Rattle.std.proofs.Common.{◌≡◌, take}
use Rattle.typed_tree.proofs.typing_rules.shape.numbers_differ.Given as goal

abbrev pub invariant-loop-number : goal.invariant-loop-number
invariant-loop-number l = l.wide.items ≡ take l.number-index l.numbers

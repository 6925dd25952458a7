use Rattle.std.proofs.Common.{◌≡◌, drop}
use Rattle.typed_tree.specs.Scope.{seen}
use Rattle.typed_tree.specs.TypingRules.Rules.{results_agree}
use Rattle.typed_tree.proofs.typing_rules.calls.returned.Given as goal

abbrev pub invariant-loop-index : goal.invariant-loop-index
invariant-loop-index l = results_agree (seen l.frame.scope) (drop l.index l.results) (drop l.index l.columns) ≡ results_agree (seen l.frame.scope) l.results l.columns

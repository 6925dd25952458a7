use Rattle.std.proofs.Common.{◌≡◌, ◌++◌, map, drop}
use Rattle.typed_tree.specs.TypingRules.Ties.Texts.{texts}
use Rattle.typed_tree.proofs.typing_rules.names.variables_named.Given as goal

abbrev pub invariant-loop-variable : goal.invariant-loop-variable
invariant-loop-variable l = texts l.names.items ++ map (λ v. v.name) (drop l.variable-index l.variables) ≡ map (λ v. v.name) l.variables

use Rattle.std.proofs.Common.{◌≡◌, drop}
use Rattle.std.specs.List.{list_all}
use Rattle.typed_tree.proofs.typing_rules.shape.all_constant.Given as goal

abbrev pub invariant-loop-variable : goal.invariant-loop-variable
invariant-loop-variable l = list_all (λ v. v.constant) (drop l.variable-index l.variables) ≡ list_all (λ v. v.constant) l.variables

use Rattle.std.proofs.Common.{◌≡◌, ◌++◌, map, drop}
use Rattle.boogie_types.specs.Ties.Numbers.{named_by}
use Rattle.boogie_types.proofs.variables.add_names.Given as goal

abbrev pub invariant-loop-variable : goal.invariant-loop-variable
invariant-loop-variable l = named_by l.names.items ++ map (λ v. v.name) (drop l.variable-index l.variables) ≡ named_by l.fn.names.items ++ map (λ v. v.name) l.variables

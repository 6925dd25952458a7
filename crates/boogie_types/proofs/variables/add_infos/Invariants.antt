use Rattle.std.proofs.Common.{◌≡◌, ◌++◌, map, drop}
use Rattle.boogie_types.specs.Meanings.{variable_info}
use Rattle.boogie_types.proofs.variables.add_infos.Given as goal

abbrev pub invariant-loop-variable : goal.invariant-loop-variable
invariant-loop-variable l = l.infos.items ++ map (variable_info l.constant) (drop l.variable-index l.variables) ≡ l.fn.infos.items ++ map (variable_info l.constant) l.variables

use Rattle.std.proofs.Common.{◌≡◌, map, take, Some}
use Rattle.std.specs.Prelude.{slice_get}
use Rattle.nested_itp.proofs.nested_predicates.tables.nodes_at.Given as goal

abbrev pub invariant-loop-i : goal.invariant-loop-i
invariant-loop-i l = map Some l.nodes.items ≡ map (λ r. slice_get r.items l.position) (take l.i l.table)

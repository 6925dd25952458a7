use Rattle.std.proofs.Common.{◌≡◌, ◌++◌, map, drop}
use Rattle.typed_tree.specs.TypedView as view
use Rattle.icfg_lower.proofs.building.add_names.Given as goal

abbrev pub invariant-loop-listed : goal.invariant-loop-listed
invariant-loop-listed l = l.names.items ++ map (λ q. q.name) (map view.procedure (drop l.listed-index l.procs)) ≡ map (λ q. q.name) (map view.procedure l.procs)

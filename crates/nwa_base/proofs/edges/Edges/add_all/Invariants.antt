use Rattle.std.proofs.Common.{◌≡◌, ◌++◌, take}
use Rattle.nwa_base.proofs.edges.Edges.add_all.Given as goal

abbrev pub invariant-loop-edge : goal.invariant-loop-edge
invariant-loop-edge l = l.self ≡ l.initial.self ++ take l.edge-index l.edges

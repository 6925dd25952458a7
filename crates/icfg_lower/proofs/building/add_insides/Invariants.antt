use Rattle.std.proofs.Common.{◌≡◌, ◌++◌, drop}
use Rattle.icfg_lower.proofs.building.add_insides.Given as goal

abbrev pub invariant-loop-from : goal.invariant-loop-from
invariant-loop-from l = record {
  added : l.nwa.insides ++ (drop l.from-index l.edges) ≡ l.fn.nwa.insides ++ l.edges;
  others : l.nwa ≡ record l.fn.nwa { insides = l.nwa.insides };
}

use Rattle.std.proofs.Common.{◌≡◌, ◌++◌, drop}
use Rattle.icfg_lower.proofs.building.add_backs.Given as goal

abbrev pub invariant-loop-from : goal.invariant-loop-from
invariant-loop-from l = record {
  added : l.nwa.backs ++ (drop l.from-index l.edges) ≡ l.fn.nwa.backs ++ l.edges;
  others : l.nwa ≡ record l.fn.nwa { backs = l.nwa.backs };
}

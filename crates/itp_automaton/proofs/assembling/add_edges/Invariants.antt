use Rattle.std.proofs.Common.{take}
use Rattle.itp_automaton.specs.Ties.Edges.{IsBuilt}
use Rattle.itp_automaton.proofs.assembling.add_edges.Given as goal

abbrev pub invariant-loop-proof : goal.invariant-loop-proof
invariant-loop-proof l = IsBuilt l.icfg l.states (take l.proof-index l.proofs) l.nwa

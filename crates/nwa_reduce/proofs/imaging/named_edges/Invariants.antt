use Rattle.std.proofs.Common.{take}
use Rattle.nwa_reduce.specs.Ties.Naming.{named}
use Rattle.nwa_reduce.specs.Images.{IsNamedEdge}
use Rattle.nwa_reduce.proofs.CollectLemmas.{IsCollected}
use Rattle.nwa_reduce.proofs.imaging.named_edges.Given as goal

abbrev pub invariant-loop-edge : goal.invariant-loop-edge
invariant-loop-edge l = IsCollected (IsNamedEdge (named l.names.of.items)) (take l.edge-index l.edges) l.set.keys

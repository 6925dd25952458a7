use Rattle.std.proofs.Common.{take}
use Rattle.nwa_reduce.specs.Ties.Naming.{named}
use Rattle.nwa_reduce.specs.Images.{IsNamedBack}
use Rattle.nwa_reduce.proofs.CollectLemmas.{IsCollected}
use Rattle.nwa_reduce.proofs.imaging.named_backs.Given as goal

abbrev pub invariant-loop-edge : goal.invariant-loop-edge
invariant-loop-edge l = IsCollected (IsNamedBack (named l.names.of.items)) (take l.edge-index l.edges) l.set.keys

use Rattle.std.proofs.Common.{take}
use Rattle.proof_build.specs.Numbering.{AreNumbered, ListsMore}
use Rattle.proof_build.proofs.listing.list_proofs.Given as goal

abbrev pub invariant-loop-proof : goal.invariant-loop-proof
invariant-loop-proof l = record {
  more : ListsMore l.icfg l.initial.preds l.preds;
  numbered : AreNumbered l.icfg l.preds (take l.proof-index l.proofs);
}

use Rattle.std.proofs.Common.{sym, ap}
use Rattle.proof_names.specs.Outlines.{OutlineNode}
use Rattle.proof_build.proofs.ProofUnwind.SpotLaws.{spot_there}
use Rattle.proof_build.proofs.proof_unwind.search.Search.entry.Goals as goal

pub returns : goal.returns
returns c = sym (ap (λ (x : OutlineNode). x.entry) (spot_there c.args.self.now.spots.items c.args.number c.index.result.now c.requires c.index.ensures))

use Rattle.std.proofs.Common.{◌∙◌, sym}
use Rattle.proof_build.specs.ProofUnwind.Spots.{plain, nodes_of}
use Rattle.proof_build.proofs.NeedLaws.{preds_there, no_preds}
use Rattle.proof_build.proofs.needs.preds_at.Goals as goal

pub returns-in-Some : goal.returns-in-Some
returns-in-Some c = c.as_slice.ensures.value ∙ preds_there (nodes_of c.args.nodes.now) c.args.number (plain c.in-Some.spot.now) (sym c.in-Some.ensures)

pub returns-in-None : goal.returns-in-None
returns-in-None c = no_preds (nodes_of c.args.nodes.now) c.args.number (sym c.in-None.ensures)

use Rattle.std.proofs.Common.{get_or, sym}
use Rattle.proof_build.specs.ProofUnwind.Spots.{plain, nodes_of}
use Rattle.proof_build.proofs.ProofUnwind.SpotLaws.{is_weaker_at}
use Rattle.proof_build.proofs.proof_unwind.search.weaker.Goals as goal

pub returns-in-Some : goal.returns-in-Some
returns-in-Some c =
    let t = c.is_weaker.ensures c.if-is_weaker.true in
    is_weaker_at (nodes_of c.args.spots.now) (get_or c.args.candidates.now c.loop-candidate.candidate-index 0) (plain c.in-Some.spot.now) c.args.place c.args.entry c.args.preds.now
    (sym c.in-Some.ensures) t.0 t.1 t.2

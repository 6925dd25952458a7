use Rattle.explained_proof.proofs.KnownWorth.{tightened_hold, nodes_are_known, known_is_shallow}
use Rattle.explained_proof.proofs.laws.what_is_known_holds.Goals as goal

pub returns : goal.returns
returns c = record { tight = tightened_hold; nodes = nodes_are_known; shallow = known_is_shallow }

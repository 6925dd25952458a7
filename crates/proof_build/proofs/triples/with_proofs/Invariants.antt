use Rattle.std.proofs.Common.{take}
use Rattle.std.specs.Prelude.{map}
use Rattle.proof_names.specs.ProofSpell.Drafts.{plain}
use Rattle.proof_build.specs.Ties.Listing.{Shows, AreNumbersOf}
use Rattle.proof_build.proofs.triples.with_proofs.Given as goal

abbrev pub invariant-loop-proof : goal.invariant-loop-proof
invariant-loop-proof l = record {
  shows : Shows l.preds l.needed (take l.proof-index l.proofs) (map plain l.initial.triples.items) (map plain l.triples.items);
  numbers : AreNumbersOf l.needed l.seen (map plain l.triples.items);
}

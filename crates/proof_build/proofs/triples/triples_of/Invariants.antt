use Rattle.std.proofs.Common.{take}
use Rattle.std.specs.Prelude.{map}
use Rattle.proof_names.specs.ProofSpell.Drafts.{plain}
use Rattle.proof_build.specs.Ties.Listing.{AreTriplesOf, AreNumbersOf}
use Rattle.proof_build.proofs.triples.triples_of.Given as goal

abbrev pub invariant-loop-automaton : goal.invariant-loop-automaton
invariant-loop-automaton l = record {
  triples : AreTriplesOf l.preds (map (λ c. c.now) (take l.automaton-index l.automata)) l.needed (map plain l.triples.items);
  numbers : AreNumbersOf l.needed l.seen (map plain l.triples.items);
}

use Rattle.nested_itp.proofs.NestedPredicates.TripleLaws.{TriplesRead}
use Rattle.nested_itp.proofs.nested_predicates.triples.triples_of.Given as goal

abbrev pub invariant-loop-at : goal.invariant-loop-at
invariant-loop-at l = TriplesRead l.letters l.preds l.at l.calls.items l.triples.items

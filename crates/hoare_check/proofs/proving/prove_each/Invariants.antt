use Rattle.std.specs.List.{AllByRecursion, AllZip}
use Rattle.std.specs.Vec.Iter.{into_iter_items}
use Rattle.letter_acts.specs.Invariant.{alphabet_of}
use Rattle.triple_rows.specs.Triples.{Agrees}
use Rattle.hoare_check.specs.Decided.{MayProve}
use Rattle.hoare_check.proofs.proving.prove_each.Given as goal

abbrev pub invariant-loop-triple : goal.invariant-loop-triple
invariant-loop-triple l = record {
  agree : AllByRecursion (Agrees (alphabet_of l.icfg)) (into_iter_items l.triple-iterator);
  answered : AllZip (MayProve (alphabet_of l.icfg)) l.yielded l.proofs.items;
}

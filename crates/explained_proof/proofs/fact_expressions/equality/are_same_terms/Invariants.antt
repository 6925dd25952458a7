use Rattle.std.proofs.Common.{◌≡◌, length, drop}
use lib.Pointwise.{pointwise}
use Rattle.letter_acts.specs.LetterTable.Letters.{same_term}
use Rattle.explained_proof.proofs.fact_expressions.equality.are_same_terms.Given as goal

abbrev pub invariant-loop-i : goal.invariant-loop-i
invariant-loop-i l = record {
  lengths : length l.a ≡ length l.b;
  same : pointwise same_term (drop l.i l.a) (drop l.i l.b) ≡ pointwise same_term l.a l.b;
}

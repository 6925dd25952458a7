use Rattle.std.proofs.Common.{◌≡◌, drop, length}
use lib.Pointwise.{pointwise}
use Rattle.math_facts.specs.Terms.{opposite}
use Rattle.letter_acts.specs.LetterTable.Letters.{same_term}
use Rattle.explained_proof.proofs.fact_expressions.entry_rows.are_opposite_terms.Given as goal

abbrev pub invariant-loop-i : goal.invariant-loop-i
invariant-loop-i l = record {
  lengths : length l.a ≡ length l.b;
  same : pointwise same_term (drop l.i l.a) (opposite (drop l.i l.b)) ≡ pointwise same_term l.a (opposite l.b);
}

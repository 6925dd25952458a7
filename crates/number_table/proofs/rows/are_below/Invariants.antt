use Rattle.std.proofs.Common.{drop}
use Rattle.math_facts.specs.Terms.{IsBelow}
use Rattle.number_table.proofs.rows.are_below.Given as goal

abbrev pub invariant-loop-term : goal.invariant-loop-term
invariant-loop-term l = IsBelow l.columns (drop l.term-index l.terms) → IsBelow l.columns l.terms

use Rattle.std.proofs.Common.{drop, length}
use Rattle.math_facts.specs.Terms.{IsBelow}
use Rattle.lin_rows.specs.Points.{point_of}
use Rattle.lin_rows.proofs.PointLemmas.{IsValuing}
use Rattle.lin_rows.proofs.points.sum_at.Given as goal

abbrev pub invariant-loop-column : goal.invariant-loop-column
invariant-loop-column l = record {
  valuing : IsValuing (point_of l.point) l.terms l.sum (drop l.column-index l.terms);
  below : IsBelow (length l.point) (drop l.column-index l.terms) → IsBelow (length l.point) l.terms;
}

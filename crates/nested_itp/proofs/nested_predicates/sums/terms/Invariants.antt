use Rattle.nested_itp.specs.NestedPredicates.Runnings.{differences}
use Rattle.nested_itp.proofs.NestedPredicates.SumLaws.{ColumnsLeft}
use Rattle.nested_itp.proofs.nested_predicates.sums.terms.Given as goal

abbrev pub invariant-loop-j : goal.invariant-loop-j
invariant-loop-j l = ColumnsLeft (differences l.running.columns.items l.known l.here) l.j l.terms.items

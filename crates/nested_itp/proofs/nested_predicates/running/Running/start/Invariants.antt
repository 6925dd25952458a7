use Rattle.nested_itp.proofs.NestedPredicates.BaseLaws.{AreZero}
use Rattle.nested_itp.proofs.nested_predicates.running.Running.start.Given as goal

abbrev pub invariant-loop-v : goal.invariant-loop-v
invariant-loop-v l = AreZero l._v l.columns.items

use Rattle.nested_itp.proofs.NestedPredicates.RunningLaws.{PartsLeft}
use Rattle.nested_itp.proofs.nested_predicates.running.Running.add_parts.Given as goal

abbrev pub invariant-loop-i : goal.invariant-loop-i
invariant-loop-i l = PartsLeft l.rows l.parts l.i l.initial.self l.self

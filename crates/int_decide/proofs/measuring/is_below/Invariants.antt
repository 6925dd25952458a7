use Rattle.std.proofs.Common.{take}
use Rattle.math_facts.specs.Terms.{IsBelow}
use Rattle.int_decide.proofs.measuring.is_below.Given as goal

abbrev pub invariant-loop-column : goal.invariant-loop-column
invariant-loop-column l = IsBelow l.columns (take l.column-index l.column-items)

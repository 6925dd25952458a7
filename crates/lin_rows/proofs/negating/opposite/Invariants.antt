use Rattle.std.proofs.Common.{◌≡◌, take}
use Rattle.math_facts.specs.Terms.{opposite}
use Rattle.lin_rows.proofs.negating.opposite.Given as goal

abbrev pub invariant-loop-column : goal.invariant-loop-column
invariant-loop-column l = l.others.items ≡ opposite (take l.column-index l.terms)

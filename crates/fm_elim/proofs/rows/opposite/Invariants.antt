use Rattle.std.proofs.Common.{◌≡◌, take}
use Rattle.math_facts.specs.Terms.{opposite}
use Rattle.fm_elim.proofs.rows.opposite.Given as goal

abbrev pub invariant-loop-number : goal.invariant-loop-number
invariant-loop-number l = l.parts.items ≡ opposite (take l.number-index l.terms)

use Rattle.std.proofs.Common.{◌≡◌, ◌≤◌, length, take}
use Rattle.math_facts.specs.Terms.{coefficient}
use Rattle.fm_elim.proofs.numbers.coefficient.Given as goal

abbrev pub invariant-loop-left : goal.invariant-loop-left
invariant-loop-left l = record { bound : l.left ≤ length l.terms; value : coefficient l.column l.row.terms ≡ coefficient l.column (take l.left l.terms) }

abbrev pub decreases-loop-left : goal.decreases-loop-left
decreases-loop-left l = l.left

use Rattle.std.proofs.Common.{◌↔◌, drop}
use Rattle.letter_acts.specs.Invariant.{AreDistinct}
use Rattle.letter_acts.proofs.checks.distinct.pairs_differ.Given as goal

abbrev pub invariant-loop-i : goal.invariant-loop-i
invariant-loop-i l = AreDistinct (drop l.i l.numbers) ↔ AreDistinct l.numbers

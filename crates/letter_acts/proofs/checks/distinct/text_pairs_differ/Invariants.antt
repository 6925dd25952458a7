use Rattle.std.proofs.Common.{◌↔◌, drop}
use Rattle.letter_acts.specs.Invariant.{AreDistinct}
use Rattle.letter_acts.proofs.checks.distinct.text_pairs_differ.Given as goal

abbrev pub invariant-loop-i : goal.invariant-loop-i
invariant-loop-i l = AreDistinct (drop l.i l.texts) ↔ AreDistinct l.texts

use Rattle.std.proofs.Common.{◌↔◌, ◌+◌, drop}
use Rattle.letter_acts.specs.Invariant.{AreNumbered}
use Rattle.letter_acts.proofs.checks.sites.are_numbered.Given as goal

abbrev pub invariant-loop-i : goal.invariant-loop-i
invariant-loop-i l = AreNumbered (l.i + 1) (drop l.i l.sites) ↔ AreNumbered 1 l.sites

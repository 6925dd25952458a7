use Rattle.std.proofs.Common.{◌↔◌, drop}
use Rattle.letter_acts.specs.Invariant.{AreDistinct, names_where}
use Rattle.letter_acts.specs.Checks.{is_named_by}
use Rattle.letter_acts.proofs.checks.naming.name_pairs_differ.Given as goal

abbrev pub invariant-loop-i : goal.invariant-loop-i
invariant-loop-i l = AreDistinct (names_where (is_named_by l.global) (drop l.i l.frame)) ↔ AreDistinct (names_where (is_named_by l.global) l.frame)

use Rattle.std.proofs.Common.{◌↔◌, drop}
use Rattle.nwa_base.specs.Members.{Member}
use Rattle.letter_acts.specs.Invariant.{names_where}
use Rattle.letter_acts.specs.Checks.{is_named_by}
use Rattle.letter_acts.proofs.checks.naming.has_name.Given as goal

abbrev pub invariant-loop-i : goal.invariant-loop-i
invariant-loop-i l = Member (names_where (is_named_by l.global) (drop l.i l.frame)) l.name ↔ Member (names_where (is_named_by l.global) l.frame) l.name

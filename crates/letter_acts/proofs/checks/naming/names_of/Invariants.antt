use Rattle.std.proofs.Common.{◌≡◌, ◌++◌, drop}
use Rattle.letter_acts.specs.Invariant.{names_where}
use Rattle.letter_acts.specs.Checks.{is_named_by}
use Rattle.letter_acts.proofs.DistinctLemmas.{bytes_of}
use Rattle.letter_acts.proofs.checks.naming.names_of.Given as goal

abbrev pub invariant-loop-column : goal.invariant-loop-column
invariant-loop-column l = bytes_of l.names.items ++ names_where (is_named_by l.global) (drop l.column-index l.frame) ≡ names_where (is_named_by l.global) l.frame

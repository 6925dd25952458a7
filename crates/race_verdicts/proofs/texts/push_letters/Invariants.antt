use Rattle.std.proofs.Common.{◌≡◌, ◌++◌}
use Rattle.std.specs.List.{flat_map}
use Rattle.std.specs.String.{string_bytes}
use Rattle.race_verdicts.specs.Texts.{letter_piece}
use Rattle.race_verdicts.proofs.Written.{with_rest}
use Rattle.race_verdicts.proofs.texts.push_letters.Given as goal

abbrev pub invariant-loop-letter : goal.invariant-loop-letter
invariant-loop-letter l = with_rest letter_piece (string_bytes l.text) l.letter-items l.letter-index ≡ string_bytes l.initial.text ++ flat_map letter_piece l.letter-items

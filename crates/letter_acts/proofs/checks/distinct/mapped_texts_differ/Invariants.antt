use Rattle.std.proofs.Common.{◌≡◌, ◌++◌, drop}
use Rattle.letter_acts.proofs.DistinctLemmas.{bytes_of}
use Rattle.letter_acts.proofs.checks.distinct.mapped_texts_differ.Given as goal

abbrev pub invariant-loop-text : goal.invariant-loop-text
invariant-loop-text l = bytes_of l.slices.items ++ drop l.text-index l.texts ≡ l.texts

use Rattle.std.proofs.Common.{◌≡◌, ◌≤◌, drop}
use Rattle.nwa_base.specs.Words.{are_matched}
use Rattle.nwa_base.proofs.spelling.are_matched.Given as goal

abbrev pub invariant-loop-letter : goal.invariant-loop-letter
invariant-loop-letter l = record {
  few : l.calls ≤ l.letter-index;
  same : are_matched l.calls (drop l.letter-index l.letters) ≡ are_matched 0 l.letters;
}

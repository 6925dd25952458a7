use Rattle.std.proofs.Common.{◌≡◌, ◌-◌, ◌≤◌, length, drop}
use Rattle.boogie_parse.specs.Lexing.Pieces.{longer, comment_length}
use Rattle.boogie_parse.proofs.lexer.enclosed.comment_length.Given as goal

abbrev pub invariant-loop-at : goal.invariant-loop-at
invariant-loop-at l = record {
  shallow : l.inner ≤ l.at;
  within : l.at ≤ length l.text;
  rest : longer l.at (comment_length l.inner (drop l.at l.text)) ≡ comment_length 0 l.text;
}

abbrev pub decreases-loop-at : goal.decreases-loop-at
decreases-loop-at l = length l.initial.text - l.at

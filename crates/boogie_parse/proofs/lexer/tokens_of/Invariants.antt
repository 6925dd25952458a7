use Rattle.std.proofs.Common.{◌≡◌, ◌≤◌, ◌-◌, length, map, drop}
use Rattle.boogie_parse.specs.Lexing.Lexed.{found_in, tokens_or_fault}
use Rattle.boogie_parse.specs.Ties.PieceViews.{piece}
use Rattle.boogie_parse.specs.Ties.Turns.{with_tokens}
use Rattle.boogie_parse.proofs.lexer.tokens_of.Given as goal

abbrev pub invariant-loop-at : goal.invariant-loop-at
invariant-loop-at l = record {
  within : l.at ≤ length l.pieces;
  rest : with_tokens l.found.items (tokens_or_fault (found_in 0 (map piece (drop l.at l.pieces)))) ≡ tokens_or_fault (found_in 0 (map piece l.pieces));
}

abbrev pub decreases-loop-at : goal.decreases-loop-at
decreases-loop-at l = length l.initial.pieces - l.at

use Rattle.std.proofs.Common.{◌≡◌, ◌+◌, ◌≤◌, ◌++◌, length, map}
use Rattle.boogie_parse.specs.Lexing.Pieces.{pieces_from, pieces}
use Rattle.boogie_parse.specs.Ties.PieceViews.{piece}
use Rattle.boogie_parse.proofs.lexer.scan.pieces.Given as goal

abbrev pub invariant-loop-front : goal.invariant-loop-front
invariant-loop-front l = record {
  line : l.here.line + length l.rest ≤ length l.text + 1;
  column : l.here.col + length l.rest ≤ length l.text + 1;
  found : map piece l.found.items ++ pieces_from 0 l.here l.rest ≡ pieces l.text;
}

abbrev pub decreases-loop-front : goal.decreases-loop-front
decreases-loop-front l = length l.rest

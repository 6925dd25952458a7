use Rattle.std.proofs.Common.{◌≡◌, ◌≤◌, drop, map}
use Rattle.boogie_parse.specs.Lexing.Pieces.{longer}
use Rattle.boogie_parse.specs.Lexing.Attributes.{braced_length}
use Rattle.boogie_parse.specs.Ties.PieceViews.{piece}
use Rattle.boogie_parse.proofs.lexer.attributes.braced_length.Given as goal

abbrev pub invariant-loop-i : goal.invariant-loop-i
invariant-loop-i l = record {
  shallow : l.inner ≤ l.i;
  rest : longer l.i (braced_length l.inner (drop l.i (map piece l.pieces))) ≡ braced_length 0 (map piece l.pieces);
}

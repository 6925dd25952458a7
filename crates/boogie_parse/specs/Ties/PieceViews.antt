-- The pieces of the code as contracts see them, without places in memory.
use Rattle.boogie_parse.specs.declared.lexer.piece.Shape.{Shape}
use Rattle.boogie_parse.specs.declared.lexer.piece.Shape.TheVariants as shapes
use Rattle.boogie_parse.specs.declared.lexer.piece.Front.{Front}
use Rattle.boogie_parse.specs.declared.lexer.piece.Front.TheVariants as fronts
use Rattle.boogie_parse.specs.declared.lexer.piece.Piece.{Piece}
use Rattle.boogie_parse.specs.Lexing.Pieces as pure

abbrev pub shape : Shape → pure.Shape
shape (shapes.Lexeme kind) = pure.Lexeme kind
shape shapes.Quoted = pure.Quoted
shape shapes.RealLiteral = pure.RealLiteral
shape shapes.LargeLiteral = pure.LargeLiteral
shape shapes.Stray = pure.Stray

abbrev pub piece : Piece → pure.Piece
piece p = record { span = p.span; shape = shape p.shape; text = p.text.now }

abbrev pub front : Front → pure.Front
front (fronts.Skipped n) = pure.Skipped n
front (fronts.Found s n) = pure.Found (shape s) n

use Rattle.std.proofs.Common.{◌≡◌, drop}
use Rattle.boogie_parse.specs.Lexing.Pieces.{longer, string_length}
use Rattle.boogie_parse.proofs.lexer.enclosed.string_length.Given as goal

abbrev pub invariant-loop-i : goal.invariant-loop-i
invariant-loop-i l = longer l.i (string_length l.before (drop l.i l.text)) ≡ string_length 34 l.text

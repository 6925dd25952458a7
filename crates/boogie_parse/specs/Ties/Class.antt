-- The classes of bytes that the code of the lexer names.
use Rattle.std.specs.Prelude.{ℕ, Bool}
use Rattle.boogie_tree.specs.Names.{is_digit, is_name_byte}
use Rattle.boogie_parse.specs.declared.lexer.runs.Class.{Class}
use Rattle.boogie_parse.specs.declared.lexer.runs.Class.TheVariants.{Digit, Name, Line}
use Rattle.boogie_parse.specs.Lexing.Pieces.{is_in_line}

-- whether a byte is of the class
abbrev pub passes : Class → ℕ → Bool
passes Digit = is_digit
passes Name = is_name_byte
passes Line = is_in_line

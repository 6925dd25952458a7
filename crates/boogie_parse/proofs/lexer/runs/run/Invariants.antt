use Rattle.std.proofs.Common.{◌≡◌, ◌+◌, drop}
use Rattle.boogie_parse.specs.Lexing.Tokens.{passing_length}
use Rattle.boogie_parse.specs.Ties.Class.{passes}
use Rattle.boogie_parse.proofs.lexer.runs.run.Given as goal

abbrev pub invariant-loop-i : goal.invariant-loop-i
invariant-loop-i l = l.i + passing_length (passes l.class) (drop l.i l.text) ≡ passing_length (passes l.class) l.text

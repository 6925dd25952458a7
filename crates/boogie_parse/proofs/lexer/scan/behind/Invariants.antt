use Rattle.std.proofs.Common.{◌≡◌, ◌+◌, ◌≤◌, drop}
use Rattle.boogie_parse.specs.Lexing.Places.{behind}
use Rattle.boogie_parse.proofs.lexer.scan.behind.Given as goal

abbrev pub invariant-loop-b : goal.invariant-loop-b
invariant-loop-b l = record {
  line : l.at.line ≤ l.fn.here.line + l.b-index;
  column : l.at.col ≤ l.fn.here.col + l.b-index;
  rest : behind (drop l.b-index l.bytes) l.at ≡ behind l.bytes l.fn.here;
}

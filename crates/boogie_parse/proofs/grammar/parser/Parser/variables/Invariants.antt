use Rattle.std.proofs.Common.{◌-◌}
use Rattle.boogie_parse.specs.Reading.ListReading.{group_at, variables_at}
use Rattle.boogie_parse.proofs.Reading.ListTurns.{Reached, left}
use Rattle.boogie_parse.proofs.grammar.parser.Parser.variables.Given as goal

abbrev pub invariant-loop-turn : goal.invariant-loop-turn
invariant-loop-turn l =
    Reached l.variables.items (left (group_at l.self.end) l.self.end l.fn.room l.variables.items (l._turn-end - l._turn) l.rest) (variables_at l.self.end l.fn.room l.fn.symbols)

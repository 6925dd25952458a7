use Rattle.std.proofs.Common.{◌-◌}
use Rattle.boogie_parse.specs.Reading.ListReading.{name_item, names_at}
use Rattle.boogie_parse.proofs.Reading.ListTurns.{Reached, left}
use Rattle.boogie_parse.proofs.grammar.parser.Parser.names.Given as goal

abbrev pub invariant-loop-turn : goal.invariant-loop-turn
invariant-loop-turn l =
    Reached l.names.items (left (name_item l.self.end) l.self.end l.fn.room l.names.items (l._turn-end - l._turn) l.rest) (names_at l.self.end l.fn.room l.fn.symbols)

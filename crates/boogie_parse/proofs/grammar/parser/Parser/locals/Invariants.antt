use Rattle.std.proofs.Common.{◌-◌, length}
use Rattle.boogie_parse.specs.Reading.ProgramReading.{local_at, locals_at}
use Rattle.boogie_parse.proofs.Reading.ListTurns.{Reached, remaining}
use Rattle.boogie_parse.proofs.grammar.parser.Parser.locals.Given as goal

abbrev pub invariant-loop-turn : goal.invariant-loop-turn
invariant-loop-turn l =
    Reached l.locals.items (remaining (local_at l.self.end) length l.fn.room l.locals.items (l._turn-end - l._turn) l.rest) (locals_at l.self.end l.fn.room l.fn.symbols)

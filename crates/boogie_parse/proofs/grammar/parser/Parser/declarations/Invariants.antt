use Rattle.std.proofs.Common.{◌≡◌, ◌-◌, map}
use Rattle.boogie_tree.specs.View.{declaration}
use Rattle.boogie_parse.specs.Rules.GrammarLimits.{procedures_counted}
use Rattle.boogie_parse.specs.Reading.ListReading.{expression_at}
use Rattle.boogie_parse.specs.Reading.ProgramReading.{declaration_at, declarations_at}
use Rattle.boogie_parse.proofs.Reading.ListTurns.{Reached, remaining}
use Rattle.boogie_parse.proofs.grammar.parser.Parser.declarations.Given as goal

abbrev pub invariant-loop-turn : goal.invariant-loop-turn
invariant-loop-turn l =
    (l.room ≡ l.fn.most - procedures_counted (map declaration l.declarations.items))
    × Reached (map declaration l.declarations.items) (remaining (declaration_at (expression_at l.self.end) l.self.end 200 200 1000) procedures_counted l.fn.most (map declaration l.declarations.items) (l._turn-end - l._turn) l.rest) (declarations_at (expression_at l.self.end) l.self.end 200 200 1000 l.fn.most l.fn.symbols)

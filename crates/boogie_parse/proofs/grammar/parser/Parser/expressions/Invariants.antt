use Rattle.std.proofs.Common.{◌-◌, map}
use Rattle.boogie_tree.specs.View.{expression}
use Rattle.boogie_parse.specs.Reading.ListReading.{expression_at, expression_item, expressions_at}
use Rattle.boogie_parse.proofs.Reading.ListTurns.{Reached, left}
use Rattle.boogie_parse.proofs.grammar.parser.Parser.expressions.Given as goal

abbrev pub invariant-loop-turn : goal.invariant-loop-turn
invariant-loop-turn l =
    Reached (map expression l.expressions.items) (left (expression_item (expression_at l.self.end) l.fn.parentheses) l.self.end 0 (map expression l.expressions.items) (l._turn-end - l._turn) l.rest) (expressions_at (expression_at l.self.end) l.self.end l.fn.parentheses l.fn.symbols)

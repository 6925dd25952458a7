use Rattle.std.proofs.Common.{◌-◌, length, map}
use Rattle.boogie_tree.specs.View.{invariant}
use Rattle.boogie_parse.specs.Reading.ListReading.{expression_at, invariant_item, invariants_at}
use Rattle.boogie_parse.proofs.Reading.ListTurns.{Reached, remaining}
use Rattle.boogie_parse.proofs.grammar.parser.Parser.invariants.Given as goal

abbrev pub invariant-loop-turn : goal.invariant-loop-turn
invariant-loop-turn l =
    Reached (map invariant l.invariants.items) (remaining (invariant_item (expression_at l.self.end) l.self.end 200) length 0 (map invariant l.invariants.items) (l._turn-end - l._turn) l.rest) (invariants_at (expression_at l.self.end) l.self.end 200 l.fn.symbols)

use Rattle.std.proofs.Common.{◌-◌, length, map}
use Rattle.boogie_tree.specs.View.{specification}
use Rattle.boogie_parse.specs.Reading.ListReading.{expression_at}
use Rattle.boogie_parse.specs.Reading.ProgramReading.{specification_item, specifications_at}
use Rattle.boogie_parse.proofs.Reading.ListTurns.{Reached, remaining}
use Rattle.boogie_parse.proofs.grammar.parser.Parser.specifications.Given as goal

abbrev pub invariant-loop-turn : goal.invariant-loop-turn
invariant-loop-turn l =
    Reached (map specification l.specifications.items) (remaining (specification_item (expression_at l.self.end) l.self.end 200) length 0 (map specification l.specifications.items) (l._turn-end - l._turn) l.rest) (specifications_at (expression_at l.self.end) l.self.end 200 l.fn.symbols)

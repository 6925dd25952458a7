use Rattle.std.proofs.Common.{◌+◌, ◌-◌, ◌*◌, length, map}
use Rattle.boogie_tree.specs.View.{statement}
use Rattle.boogie_parse.specs.Reading.ListReading.{expression_at}
use Rattle.boogie_parse.specs.Reading.StatementReading.{statement_item, list_at}
use Rattle.boogie_parse.specs.Ties.StatementViews.{inside}
use Rattle.boogie_parse.proofs.Reading.ListTurns.{Reached, remaining}
use Rattle.boogie_parse.proofs.grammar.parser.Parser.+statements.Given as goal

abbrev pub decreases-block : goal.decreases-block
decreases-block l = 8 * l.blocks

abbrev pub decreases-inner_branch : goal.decreases-inner_branch
decreases-inner_branch l = 8 * l.blocks

abbrev pub decreases-other : goal.decreases-other
decreases-other l = 8 * l.blocks + 1

abbrev pub decreases-branch : goal.decreases-branch
decreases-branch l = 8 * l.blocks + 2

abbrev pub decreases-looped : goal.decreases-looped
decreases-looped l = 8 * l.blocks + 2

abbrev pub decreases-statement : goal.decreases-statement
decreases-statement l = 8 * l.blocks + 3

abbrev pub decreases-list : goal.decreases-list
decreases-list l = 8 * l.blocks + 4

abbrev pub invariant-list-loop-turn : goal.invariant-list-loop-turn
invariant-list-loop-turn l =
    Reached (map statement l.statements.items) (remaining (statement_item (expression_at l.self.end) l.self.end 200 (inside l.self.end l.fn.blocks)) length 0 (map statement l.statements.items) (l._turn-end - l._turn) l.rest) (list_at (expression_at l.self.end) l.self.end 200 (inside l.self.end l.fn.blocks) l.fn.symbols)

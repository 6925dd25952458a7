use Rattle.boogie_tree.specs.View.{expression}
use Rattle.boogie_parse.specs.declared.symbols.Fixed.TheVariants as fixed
use Rattle.boogie_parse.specs.Reading.ListViews.{items_as}
use Rattle.boogie_parse.specs.Reading.ListReading.{arguments_at}
use Rattle.boogie_parse.proofs.Reading.EndedValues.{ended_as}
use Rattle.boogie_parse.proofs.grammar.parser.Parser.arguments.Goals as goal

pub returns : goal.returns
unfolding arguments_at
returns c =
    rw (c.in_ok-parentheses.ensures, ← c.in_default.ensures, c.in_ok-arguments.ensures)
    (ended_as (items_as expression) c.ended_by.result c.args.self.now.end fixed.CloseParenthesis _ _ c.ended_by.ensures)

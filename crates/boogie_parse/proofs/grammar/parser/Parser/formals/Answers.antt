use Rattle.boogie_parse.specs.declared.symbols.Fixed.TheVariants as fixed
use Rattle.boogie_parse.specs.Reading.ListViews.{items}
use Rattle.boogie_parse.specs.Reading.ListReading.{formals_at}
use Rattle.boogie_parse.proofs.Reading.EndedValues.{ended_as}
use Rattle.boogie_parse.proofs.grammar.parser.Parser.formals.Goals as goal

pub returns : goal.returns
unfolding formals_at
returns c =
    rw (c.in_ok-rest.ensures, ← c.in_default.ensures, c.in_ok-variables.ensures)
    (ended_as items c.ended_by.result c.args.self.now.end fixed.CloseParenthesis _ _ c.ended_by.ensures)

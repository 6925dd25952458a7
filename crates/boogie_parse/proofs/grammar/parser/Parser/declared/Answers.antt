use Rattle.boogie_parse.specs.Reading.ListViews.{items}
use Rattle.boogie_parse.specs.declared.symbols.Fixed.TheVariants as fixed
use Rattle.boogie_parse.specs.Reading.ListReading.{declared_behind}
use Rattle.boogie_parse.proofs.Reading.EndedValues.{ended_as}
use Rattle.boogie_parse.proofs.grammar.parser.Parser.declared.Goals as goal

pub returns : goal.returns
unfolding declared_behind
returns c = rw c.in_ok-variables.ensures (ended_as items c.ended_by.result c.args.self.now.end fixed.Semicolon _ _ c.ended_by.ensures)

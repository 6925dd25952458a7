use Rattle.boogie_tree.specs.View.{body}
use Rattle.boogie_parse.specs.declared.symbols.Fixed.TheVariants as fixed
use Rattle.boogie_parse.specs.Reading.ProgramReading.{body_at}
use Rattle.boogie_parse.proofs.Reading.EndedValues.{ended_as}
use Rattle.boogie_parse.proofs.grammar.parser.Parser.body.Goals as goal

pub returns : goal.returns
unfolding body_at
returns c =
    rw (c.in_ok-blocks.ensures, c.in_ok-locals.ensures, c.in_ok-stmts.ensures)
    (ended_as body c.ended_by.result c.args.self.now.end fixed.CloseBrace _ _ c.ended_by.ensures)

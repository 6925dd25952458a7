use Rattle.boogie_tree.specs.View.{expression}
use Rattle.boogie_parse.specs.declared.symbols.Fixed.TheVariants as fixed
use Rattle.boogie_parse.specs.Reading.ListReading.{claim_at}
use Rattle.boogie_parse.proofs.Reading.EndedValues.{ended_as}
use Rattle.boogie_parse.proofs.grammar.parser.Parser.claim.Goals as goal

pub returns : goal.returns
unfolding claim_at
returns c = rw c.in_ok-expression.ensures (ended_as expression c.ended_by.result c.args.self.now.end fixed.Semicolon _ _ c.ended_by.ensures)

use Rattle.std.proofs.Common.{refl}
use Rattle.boogie_parse.specs.Reading.StatementReading.{return_at}
use Rattle.boogie_parse.proofs.Reading.SeenStatements.{seen_return}
use Rattle.boogie_parse.proofs.Reading.AddedStatements.{added_if}
use Rattle.boogie_parse.proofs.grammar.parser.Parser.return_out.Goals as goal

pub returns : goal.returns
unfolding return_at
returns c = added_if _ _ _ _ (return_at c.args.self.now.end c.args.span c.args.symbols.now) _ c.in_ok-put.ensures.ok (seen_return c.args.span) (rw c.in_ok-rest.ensures refl)

use Rattle.std.proofs.Common.{refl}
use Rattle.boogie_parse.specs.Reading.ListReading.{expression_at}
use Rattle.boogie_parse.specs.Reading.StatementReading.{called_at}
use Rattle.boogie_parse.proofs.Reading.SeenStatements.{seen_call}
use Rattle.boogie_parse.proofs.Reading.AddedStatements.{added_if}
use Rattle.boogie_parse.proofs.grammar.parser.Parser.called.Goals as goal

pub returns : goal.returns
unfolding called_at
returns c =
    added_if _ _ _ _ (called_at (expression_at c.args.self.now.end) c.args.self.now.end 200 c.args.span c.args.targets.items c.args.procedure c.args.symbols.now) _ c.in_ok-put.ensures.ok (seen_call c.args.span c.args.targets c.args.procedure c.in_ok-arguments.arguments)
    (rw (c.in_ok-arguments.ensures, c.in_ok-rest.ensures) refl)

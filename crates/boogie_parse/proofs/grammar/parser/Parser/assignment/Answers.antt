use Rattle.std.proofs.Common.{refl}
use Rattle.boogie_parse.specs.Reading.ListReading.{expression_at}
use Rattle.boogie_parse.specs.Reading.StatementReading.{assign_at}
use Rattle.boogie_parse.proofs.Reading.SeenStatements.{seen_assign}
use Rattle.boogie_parse.proofs.Reading.AddedStatements.{added_if}
use Rattle.boogie_parse.proofs.grammar.parser.Parser.assignment.Goals as goal

pub returns : goal.returns
unfolding assign_at
returns c =
    added_if _ _ _ _ (assign_at (expression_at c.args.self.now.end) c.args.self.now.end 200 c.args.span c.args.symbols.now) _ c.in_ok-put.ensures.ok (seen_assign c.args.span c.in_ok-targets.targets c.in_ok-values.values)
    (rw (c.in_ok-targets.ensures, c.in_ok-rest.ensures, c.in_ok-values.ensures, c.in_ok-rest-2.ensures) refl)

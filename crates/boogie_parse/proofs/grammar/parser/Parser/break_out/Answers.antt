use Rattle.std.proofs.Common.{Some, refl}
use Rattle.boogie_parse.specs.Reading.StatementReading.{break_at}
use Rattle.boogie_parse.proofs.Reading.SeenStatements.{seen_break}
use Rattle.boogie_parse.proofs.Reading.AddedStatements.{added_if}
use Rattle.boogie_parse.proofs.grammar.parser.Parser.break_out.Goals as goal

pub returns : goal.returns
unfolding break_at
returns c =
    added_if _ _ _ _ (break_at c.args.self.now.end c.args.span c.args.symbols.now) _ c.in_ok-put-2.ensures.ok (seen_break c.args.span (Some c.in_ok-label.label))
    (rw (← c.in_default.ensures, c.in_ok-label.ensures, c.in_ok-rest.ensures) refl)

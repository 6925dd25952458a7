use Rattle.std.proofs.Common.{sym, ◌∙◌}
use Rattle.boogie_parse.proofs.Lexing.LiteralLaws.{literal_too_large}
use Rattle.boogie_parse.proofs.literals.literal.Goals as goal

pub returns-in_err-value : goal.returns-in_err-value
returns-in_err-value c =
    let none = sym c.with_digit.ensures ∙ c.in_err-value.was in
    let e = literal_too_large _ _ c.loop-digit.digit-index c.loop-digit-test.true c.loop-digit.invariant.rest none in
    cc

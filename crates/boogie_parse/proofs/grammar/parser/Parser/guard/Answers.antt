use Rattle.boogie_tree.specs.View.{guard}
use Rattle.boogie_parse.specs.declared.symbols.Fixed.TheVariants as fixed
use Rattle.boogie_parse.specs.Reading.ListReading.{guard_at}
use Rattle.boogie_parse.proofs.Reading.EndedValues.{ended_as}
use Rattle.boogie_parse.proofs.grammar.parser.Parser.guard.Goals as goal

pub returns-in-Some : goal.returns-in-Some
unfolding guard_at
returns-in-Some c =
    rw (c.in_ok-parentheses.ensures, ← c.in-Some.ensures)
    (ended_as guard c.ended_by.result c.args.self.now.end fixed.CloseParenthesis _ _ c.ended_by.ensures)

pub returns : goal.returns
unfolding guard_at
returns c =
    rw (c.in_ok-parentheses.ensures, ← c.in_default.ensures, c.in_ok-condition.ensures)
    (ended_as guard c.ended_by-2.result c.args.self.now.end fixed.CloseParenthesis _ _ c.ended_by-2.ensures)

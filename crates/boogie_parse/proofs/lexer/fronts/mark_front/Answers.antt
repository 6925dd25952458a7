use Rattle.std.proofs.Common.{◌∙◌, sym}
use Rattle.boogie_parse.proofs.Lexing.FrontTurns.{mark_found, no_mark}
use Rattle.boogie_parse.proofs.lexer.fronts.mark_front.Goals as goal

pub returns-in-Some : goal.returns-in-Some
returns-in-Some c = mark_found c.args.text.now c.in-Some.kind c.in-Some.len (sym c.in-Some.is ∙ c.mark_at.ensures)

pub returns-in-None : goal.returns-in-None
returns-in-None c = no_mark c.args.text.now (sym c.in-None.is ∙ c.mark_at.ensures)

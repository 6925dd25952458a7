use Rattle.std.proofs.Common.{ap, sym, ◌∙◌, Err}
use Rattle.boogie_parse.specs.declared.fault.Fault.{Fault}
use Rattle.boogie_parse.specs.Ties.Turns.{unless_stray}
use Rattle.boogie_parse.proofs.Lexing.PieceViewLaws.{stays_open, closes}
use Rattle.boogie_parse.proofs.lexer.attributes.attribute_length.Goals as goal

pub returns-in_default-clause-counted : goal.returns-in_default-clause-counted
returns-in_default-clause-counted c = stays_open c.args.here c.args.after.now _ (sym c.in_default.is ∙ c.braced_length.ensures.counted) c.syntax_at.ensures

pub returns-in-Some-first_stray-clause-counted : goal.returns-in-Some-first_stray-clause-counted
returns-in-Some-first_stray-clause-counted c =
    ap (λ (f : Fault). Err f) c.syntax_at-in-Some-first_stray.ensures
    ∙ ap (unless_stray c.in-Some.len) (sym c.in-Some-first_stray.is ∙ c.first_stray.ensures)
    ∙ closes c.args.here c.args.after.now c.in-Some.len (sym c.in-Some.is ∙ c.braced_length.ensures.counted)

pub returns-in-None-clause-counted : goal.returns-in-None-clause-counted
returns-in-None-clause-counted c =
    ap (unless_stray c.in-Some.len) (sym c.in-None.is ∙ c.first_stray.ensures)
    ∙ closes c.args.here c.args.after.now c.in-Some.len (sym c.in-Some.is ∙ c.braced_length.ensures.counted)

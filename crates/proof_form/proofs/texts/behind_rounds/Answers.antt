use Rattle.std.proofs.Common.{sym}
use Rattle.std.proofs.lemmas.Result.{err_from_is_err_and}
use Rattle.proof_form.proofs.HeaderLaws.{no_line_lacks_rounds, other_word_lacks_rounds, rounds_taken, rounds_refused}
use Rattle.proof_form.proofs.texts.behind_rounds.Goals as goal

pub returns-in_default : goal.returns-in_default
returns-in_default c = no_line_lacks_rounds c.args.text.now (sym c.in_default.ensures)

pub returns-in_default-text_at : goal.returns-in_default-text_at
returns-in_default-text_at c =
    other_word_lacks_rounds c.args.text.now c.in-Some.bytes.now c.in-Some.behind.now (sym c.in-Some.ensures) (sym c.in_default-text_at.ensures)

pub returns-in_err-number_of : goal.returns-in_err-number_of
returns-in_err-number_of c =
    let p = err_from_is_err_and c.from_residual.result c.from_residual.ensures.1 in
    rw (p.1, p.2) (rounds_refused c.args.text.now c.in-Some.bytes.now c.in-Some.behind.now c.in-Some-text_at.digits.now c.in_err-number_of.field-0.0
    (sym c.in-Some.ensures) (sym c.in-Some-text_at.ensures) c.in_err-number_of.ensures)

pub returns : goal.returns
returns c =
    rounds_taken c.args.text.now c.in-Some.bytes.now c.in-Some.behind.now c.in-Some-text_at.digits.now _
    (sym c.in-Some.ensures) (sym c.in-Some-text_at.ensures) c.in_ok-number_of.ensures

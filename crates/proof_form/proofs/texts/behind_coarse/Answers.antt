use Rattle.std.proofs.Common.{sym}
use Rattle.proof_form.specs.TextOutcomes.{ReadsLetter}
use Rattle.proof_form.proofs.CoarseLaws.{no_line_lacks_coarse, other_word_lacks_coarse, other_number_lacks_coarse, coarse_taken}
use Rattle.std.specs.Prelude.{None, Some}
use Rattle.proof_form.proofs.texts.behind_coarse.Goals as goal

pub returns-in_default : goal.returns-in_default
returns-in_default c = no_line_lacks_coarse c.args.text.now (sym c.in_default.ensures)

pub returns-in_default-text_at : goal.returns-in_default-text_at
returns-in_default-text_at c =
    other_word_lacks_coarse c.args.text.now c.in-Some.bytes.now c.in-Some.behind.now (sym c.in-Some.ensures) (sym c.in_default-text_at.ensures)

pub returns-in-Some-2 : goal.returns-in-Some-2
returns-in-Some-2 c =
    let h : ReadsLetter c.in-Some-text_at.digits.now (Some c.in-Some-2.letter) = rw c.in-Some-2.is at c.in_ok-letter.ensures in
    (h.0, coarse_taken c.args.text.now c.in-Some.bytes.now c.in-Some.behind.now c.in-Some-text_at.digits.now c.in-Some-2.letter (sym c.in-Some.ensures) (sym c.in-Some-text_at.ensures) h.1)

pub returns-in-None : goal.returns-in-None
returns-in-None c =
    let h : ReadsLetter c.in-Some-text_at.digits.now None = rw c.in-None.is at c.in_ok-letter.ensures in
    other_number_lacks_coarse c.args.text.now c.in-Some.bytes.now c.in-Some.behind.now c.in-Some-text_at.digits.now (sym c.in-Some.ensures) (sym c.in-Some-text_at.ensures) h

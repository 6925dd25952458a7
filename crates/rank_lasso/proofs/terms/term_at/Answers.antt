use Rattle.std.proofs.Common.{◌≡◌, sym, ◌∙◌}
use Rattle.proof_form.specs.Numerals.{numeral_text}
use Rattle.rank_lasso.specs.Lines.{IsNumeral}
use Rattle.rank_lasso.proofs.LineLaws.{unread, read_as}
use Rattle.rank_lasso.proofs.TermLaws.{no_first_word, no_second_word, no_column, no_coefficient, term_read}
use Rattle.rank_lasso.proofs.terms.term_at.Goals as goal

pub returns-in_default-word_at : goal.returns-in_default-word_at
returns-in_default-word_at c = no_second_word c.args.bytes.now c.in-Some.number.now c.in-Some.rest.now c.in-Some.ensures c.in_default-word_at.ensures

pub returns-then-not-is_col : goal.returns-then-not-is_col
returns-then-not-is_col c =
    no_column c.args.bytes.now c.in-Some.number.now c.in-Some.rest.now c.in-Some-word_at.column.now c.in-Some-word_at.rest.now c.in-Some.ensures c.in-Some-word_at.ensures
    (sym c.if-not-is_col.ensures)

pub returns-in-None : goal.returns-in-None
returns-in-None c =
    no_coefficient c.args.bytes.now c.in-Some.number.now c.in-Some.rest.now c.in-Some.ensures
    (unread (λ n. n) IsNumeral numeral_text c.in-Some.number.now c.in_ok-coefficient.field-0 c.in-None.is c.in_ok-coefficient.ensures)

pub returns-in_default : goal.returns-in_default
returns-in_default c = no_first_word c.args.bytes.now c.in_default.ensures

pub returns-in_ok-from_slice-in-Some-2 : goal.returns-in_ok-from_slice-in-Some-2
returns-in_ok-from_slice-in-Some-2 c =
    let n = c.in-Some-2.coefficient in
    let same : c.new-column.result ≡ c.in-Some-word_at.column.now = c.new-column.ensures ∙ c.in_ok-from_slice-in-Some-2.ensures.items in
    let read = read_as (λ n. n) IsNumeral numeral_text c.in-Some.number.now c.in_ok-coefficient.field-0 n c.in-Some-2.is c.in_ok-coefficient.ensures in
    rw same (term_read c.args.bytes.now c.in-Some.number.now c.in-Some.rest.now c.in-Some-word_at.column.now c.in-Some-word_at.rest.now n c.in-Some.ensures c.in-Some-word_at.ensures
    (sym c.if-not-is_col.ensures) read.0 read.1)

use Rattle.std.proofs.Common.{◌∙◌, sym}
use Rattle.boogie_parse.proofs.Lexing.FrontTurns.{IsOther, blank_first, digit_first, name_first, quote_first, line_comment_first, comment_first, other_first}
use Rattle.boogie_parse.proofs.lexer.fronts.front_of.Goals as goal

pub returns-then-is_blank : goal.returns-then-is_blank
returns-then-is_blank c = blank_first c.args.text.now _ _ c.in_ok-first.ensures.cases.0 (sym c.is_blank.ensures ∙ c.if-is_blank.true)

pub returns-then-is_digit : goal.returns-then-is_digit
returns-then-is_digit c =
    digit_first c.args.text.now _ _ _ c.in_ok-first.ensures.cases.0 (sym c.is_blank.ensures ∙ c.if-is_blank.false) (sym c.is_digit.ensures ∙ c.if-is_digit.true) c.literal_front.ensures

pub returns-then-is_name_byte : goal.returns-then-is_name_byte
returns-then-is_name_byte c =
    name_first c.args.text.now _ _ _ c.in_ok-first.ensures.cases.0 (sym c.is_blank.ensures ∙ c.if-is_blank.false) (sym c.is_digit.ensures ∙ c.if-is_digit.false)
    (sym c.is_name_byte.ensures ∙ c.if-is_name_byte.true) c.run.ensures.counted

pub returns-then-first-eq34 : goal.returns-then-first-eq34
returns-then-first-eq34 c =
    let other : IsOther c.in_ok-first.first.now = record {
      blank = sym c.is_blank.ensures ∙ c.if-is_blank.false;
      digit = sym c.is_digit.ensures ∙ c.if-is_digit.false;
      name = sym c.is_name_byte.ensures ∙ c.if-is_name_byte.false;
    } in
    quote_first c.args.text.now _ _ _ c.in_ok-first.ensures.cases.0 other c.if-first-eq34.true c.string_front.ensures

pub returns-then-starts_with : goal.returns-then-starts_with
returns-then-starts_with c =
    let other : IsOther c.in_ok-first.first.now = record {
      blank = sym c.is_blank.ensures ∙ c.if-is_blank.false;
      digit = sym c.is_digit.ensures ∙ c.if-is_digit.false;
      name = sym c.is_name_byte.ensures ∙ c.if-is_name_byte.false;
    } in
    line_comment_first c.args.text.now _ _ _ c.in_ok-first.ensures.cases.0 other c.if-first-eq34.false (sym c.starts_with.ensures.value ∙ c.if-starts_with.true) c.run-then-starts_with.ensures.counted

pub returns-then-starts_with-2 : goal.returns-then-starts_with-2
returns-then-starts_with-2 c =
    let other : IsOther c.in_ok-first.first.now = record {
      blank = sym c.is_blank.ensures ∙ c.if-is_blank.false;
      digit = sym c.is_digit.ensures ∙ c.if-is_digit.false;
      name = sym c.is_name_byte.ensures ∙ c.if-is_name_byte.false;
    } in
    comment_first c.args.text.now _ _ _ c.in_ok-first.ensures.cases.0 other c.if-first-eq34.false (sym c.starts_with.ensures.value ∙ c.if-starts_with.false)
    (sym c.starts_with-else-starts_with.ensures.value ∙ c.if-starts_with-2.true) c.comment_front.ensures

pub returns-else-starts_with-2 : goal.returns-else-starts_with-2
returns-else-starts_with-2 c =
    let other : IsOther c.in_ok-first.first.now = record {
      blank = sym c.is_blank.ensures ∙ c.if-is_blank.false;
      digit = sym c.is_digit.ensures ∙ c.if-is_digit.false;
      name = sym c.is_name_byte.ensures ∙ c.if-is_name_byte.false;
    } in
    other_first c.args.text.now _ _ _ c.in_ok-first.ensures.cases.0 other c.if-first-eq34.false (sym c.starts_with.ensures.value ∙ c.if-starts_with.false)
    (sym c.starts_with-else-starts_with.ensures.value ∙ c.if-starts_with-2.false) c.mark_front.ensures

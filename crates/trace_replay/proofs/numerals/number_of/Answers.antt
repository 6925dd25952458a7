use Rattle.std.proofs.Common.{sym, ◌∙◌, subst}
use Rattle.trace_replay.proofs.Parsed.{IsNumberOf, digits_are_text, no_number, number_parsed, at_value, at_no_value}
use Rattle.trace_replay.proofs.numerals.number_of.Goals as goal

pub returns-then-not-has_one_spelling : goal.returns-then-not-has_one_spelling
returns-then-not-has_one_spelling c = no_number c.args.digits.now (sym c.has_one_spelling.ensures ∙ c.if-not-has_one_spelling.true)

pub returns-in_err-text : goal.returns-in_err-text
returns-in_err-text c =
    let failed = at_no_value c.from_utf8.result _ _ (sym c.in_err-text.ensures.value) c.from_utf8.ensures.cases in
    absurd (failed.1.0 (digits_are_text c.args.digits.now c.requires))

pub returns : goal.returns
returns c =
    let text = at_value c.from_utf8.result _ _ c.in_ok-text.text (sym c.in_ok-text.ensures.value) c.from_utf8.ensures.cases in
    let parsed = rw text.0 at c.parse.ensures.value.0 in
    subst (IsNumberOf c.args.digits.now) (sym c.ok-2.ensures.value) (number_parsed c.args.digits.now c.parse.result parsed c.requires (sym c.has_one_spelling.ensures ∙ c.if-not-has_one_spelling.false))

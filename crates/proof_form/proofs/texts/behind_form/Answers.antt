use Rattle.std.proofs.Common.{◌≡◌, ◌+◌, length, sym, ◌∙◌, arith}
use Rattle.std.proofs.lemmas.Result.{err_from_is_err_and}
use Rattle.proof_form.proofs.FormLaws.{no_letters, some_letters_are, form_empty, form_refused, form_read}
use Rattle.proof_form.proofs.texts.behind_form.Goals as goal

pub items_of-requires : goal.items_of-requires
items_of-requires c =
    let v = c.in_ok-coarse.coarse in
    let w = c.in_ok-coarse.ensures.within in omega (arith, w, c.len.ensures, v.ok.0, v.ok.1)

pub returns-then-is_empty : goal.returns-then-is_empty
returns-then-is_empty c =
    form_empty c.args.text.now c.in_ok-coarse.coarse.items c.in_ok-coarse.rest.now c.in_ok-coarse.ensures (no_letters c.in_ok-coarse.coarse (sym c.is_empty.ensures ∙ c.if-is_empty.true))

pub returns-in_err-draft : goal.returns-in_err-draft
returns-in_err-draft c =
    let v = c.in_ok-coarse.coarse in
    let first : c.len.result + 4 ≡ length v.items + 4 = omega (arith, c.len.ensures, v.ok.0, v.ok.1) in
    let p = err_from_is_err_and c.from_residual-in_err-draft.result c.from_residual-in_err-draft.ensures.1 in
    rw (p.1, p.2) (form_refused c.args.text.now v.items c.in_ok-coarse.rest.now (c.len.result + 4) c.in_err-draft.field-0.0 c.in_ok-coarse.ensures
    (some_letters_are v (sym c.is_empty.ensures ∙ c.if-is_empty.false)) first c.in_err-draft.ensures)

pub returns : goal.returns
returns c =
    form_read c.args.text.now c.in_ok-coarse.rest.now c.in_ok-coarse.coarse c.in_ok-draft.draft (c.len.result + 4) c.in_ok-coarse.ensures
    (some_letters_are c.in_ok-coarse.coarse (sym c.is_empty.ensures ∙ c.if-is_empty.false)) c.in_ok-draft.ensures

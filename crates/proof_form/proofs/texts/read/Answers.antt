use Rattle.std.proofs.Common.{rules, ◌<◌, ◌^◌}
use Rattle.std.proofs.lemmas.Result.{err_from_is_err_and}
use Rattle.proof_form.proofs.FormLaws.{text_read, text_refused}
use Rattle.proof_form.proofs.texts.read.Goals as goal

pub returns-in_err-coarse : goal.returns-in_err-coarse
returns-in_err-coarse c =
    let low : c.in-Ok.found.0 < 2 ^ 64 = search rules in
    let p = err_from_is_err_and c.from_residual.result c.from_residual.ensures.1 in
    rw (p.1, p.2) (text_refused c.args.text.now c.in-Some.rest.now c.in-Ok.found.1.now c.in-Ok.found.0 c.in_err-coarse.field-0.0 low c.in-Some.ensures c.in-Ok.ensures c.in_err-coarse.ensures)

pub returns : goal.returns
returns c =
    text_read c.args.text.now c.in-Some.rest.now c.in-Ok.found.1.now c.in-Ok.found.0 c.in_ok-coarse.coarse c.in_ok-coarse.draft c.in-Some.ensures c.in-Ok.ensures c.in_ok-coarse.ensures

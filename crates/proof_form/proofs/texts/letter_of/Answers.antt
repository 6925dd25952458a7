use Rattle.std.proofs.Common.{rules, ◌<◌, ◌^◌}
use Rattle.proof_form.proofs.CoarseLaws.{letter_read}
use Rattle.proof_form.proofs.texts.letter_of.Goals as goal

pub returns-in-Ok : goal.returns-in-Ok
returns-in-Ok c =
    let low : c.in-Ok.number < 2 ^ 64 = search rules in
    letter_read c.args.bytes.now c.in-Ok.number c.try_from.result c.ok.result low c.in-Ok.ensures c.ok.ensures.value c.try_from.ensures

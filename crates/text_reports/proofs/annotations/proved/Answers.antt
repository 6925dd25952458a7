use Rattle.std.proofs.Common.{◌≡◌, ◌+◌, length, Err, refl}
use Rattle.proof_check.specs.declared.rejects.Reject.TheVariants.{At}
use Rattle.text_reports.specs.ReportCases.{rejected}
use Rattle.text_reports.specs.ReportCases.{item_fails}
use Rattle.text_reports.proofs.TextLaws.{judged_so}
use Rattle.text_reports.proofs.annotations.proved.Goals as goal

pub returns-in-Err-At-clause-reported : goal.returns-in-Err-At-clause-reported
returns-in-Err-At-clause-reported c =
    let refused : c.check.result ≡ Err (At c.in-Err-At.item c.in-Err-At.cause) = cc in
    rejected c.in-Err-At.item c.in-Err-At.cause c.requires (c.check.ensures.first c.in-Err-At.item c.in-Err-At.cause refused) c.rejected.ensures.answer

pub returns-in-Err-At-clause-judged : goal.returns-in-Err-At-clause-judged
returns-in-Err-At-clause-judged c =
    let refused : c.check.result ≡ Err (At c.in-Err-At.item c.in-Err-At.cause) = cc in
    judged_so c.args.icfg.now c.args.coarse.now c.args.proof.now c.rejected.result (c.in-Err-At.item + (length c.args.coarse.now + 4)) c.in-Err-At.cause c.rejected.ensures.line
    (item_fails c.in-Err-At.item c.requires (c.check.ensures.first c.in-Err-At.item c.in-Err-At.cause refused) refl)

use Rattle.std.proofs.Common.{◌≡◌, Err, subst}
use Rattle.proof_names.specs.declared.fault.NameFault.TheVariants as faults
use Rattle.proof_names.specs.Outlines.{sketch}
use Rattle.proof_check.specs.declared.rejects.Reject.{Reject}
use Rattle.proof_check.specs.declared.rejects.Reject.TheVariants.{At}
use Rattle.proof_check.specs.declared.rejects.RejectCause.{RejectCause}
use Rattle.proof_check.specs.declared.rejects.RejectCause.TheVariants.{BadName}
use Rattle.proof_check.specs.Checks.{IsFirst, AreOutcomes}
use Rattle.proof_check.proofs.UniqueLaws.{proves_of, first_of, unnamed_first, proved_no_first}
use Rattle.proof_check.proofs.checking.named_proof.Goals as goal

pub returns-in_ok-check_outline-in-Ok-clause-proves : goal.returns-in_ok-check_outline-in-Ok-clause-proves
returns-in_ok-check_outline-in-Ok-clause-proves c =
    proves_of c.args.icfg.now c.args.proof.now (sketch c.in-Ok.outline) c.in-Ok.ensures.ok c.in_ok-check_outline-in-Ok.ensures.outcome

pub returns-in_err-check_outline-in-Ok-clause-first : goal.returns-in_err-check_outline-in-Ok-clause-first
returns-in_err-check_outline-in-Ok-clause-first c = λ item cause e.
    let h = rw e at c.from_residual.ensures.1 in
    let q : c.in_err-check_outline-in-Ok.field-0.0 ≡ At item cause = cc in
    first_of c.args.icfg.now c.args.proof.now (sketch c.in-Ok.outline) item cause c.in-Ok.ensures.ok
    (subst (λ (x : Reject). AreOutcomes {U = Unit {0}} c.args.icfg.now c.args.proof.now (sketch c.in-Ok.outline) (Err x)) q c.in_err-check_outline-in-Ok.ensures.outcome)

pub returns-in_err-check_outline-in-Ok-clause-accepts : goal.returns-in_err-check_outline-in-Ok-clause-accepts
returns-in_err-check_outline-in-Ok-clause-accepts c = λ p item cause e.
    let h = rw e at c.from_residual.ensures.1 in
    let q : c.in_err-check_outline-in-Ok.field-0.0 ≡ At item cause = cc in
    proved_no_first c.args.icfg.now c.args.proof.now item cause p
    (first_of c.args.icfg.now c.args.proof.now (sketch c.in-Ok.outline) item cause c.in-Ok.ensures.ok
    (subst (λ (x : Reject). AreOutcomes {U = Unit {0}} c.args.icfg.now c.args.proof.now (sketch c.in-Ok.outline) (Err x)) q c.in_err-check_outline-in-Ok.ensures.outcome))

pub returns-in-Err-At-clause-accepts : goal.returns-in-Err-At-clause-accepts
returns-in-Err-At-clause-accepts c = λ p item cause e.
    let q : c.outline.result ≡ Err (faults.At item) = (let a = c.in-Err-At.is in let b = c.in-Err-At.field-0-is in let d = c.in-Err-At.item-is in cc) in
    let k : BadName ≡ cause = cc in
    proved_no_first c.args.icfg.now c.args.proof.now item cause p
    (subst (λ (x : RejectCause). IsFirst c.args.icfg.now c.args.proof.now item x) k (unnamed_first c.args.icfg.now c.args.proof.now item (c.outline.ensures.at item q)))

pub returns-in-Err-At-clause-first : goal.returns-in-Err-At-clause-first
returns-in-Err-At-clause-first c = λ item cause e.
    let q : c.outline.result ≡ Err (faults.At item) = (let a = c.in-Err-At.is in let b = c.in-Err-At.field-0-is in let d = c.in-Err-At.item-is in cc) in
    let k : BadName ≡ cause = cc in
    subst (λ (x : RejectCause). IsFirst c.args.icfg.now c.args.proof.now item x) k (unnamed_first c.args.icfg.now c.args.proof.now item (c.outline.ensures.at item q))

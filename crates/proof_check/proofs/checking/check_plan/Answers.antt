use Rattle.std.proofs.Common.{◌≡◌, Err, subst}
use Rattle.proof_check.specs.declared.rejects.Reject.{Reject}
use Rattle.proof_check.specs.Checks.{AreOutcomes}
use Rattle.proof_check.proofs.OutcomeLaws.{handed_on, stops_at_steps, last_check}
use Rattle.proof_check.proofs.checking.check_plan.Goals as goal

pub returns-in_err-check_steps : goal.returns-in_err-check_steps
returns-in_err-check_steps c =
    handed_on _ (AreOutcomes {U = Unit {0}} c.args.icfg.now c.args.proof.now c.args.plan.now) c.from_residual.result c.from_residual.ensures.1
    (λ x h. let q : c.in_err-check_steps.field-0.0 ≡ x = cc in
    subst (λ (y : Reject). AreOutcomes {U = Unit {0}} c.args.icfg.now c.args.proof.now c.args.plan.now (Err y)) q
    (stops_at_steps c.args.icfg.now c.args.proof.now c.args.plan.now c.in_err-check_steps.field-0.0 c.requires.triples c.requires.start c.requires.errors c.in_err-check_steps.ensures))

pub returns : goal.returns
returns c =
    last_check c.args.icfg.now c.args.proof.now c.args.plan.now c.check_covering.result c.requires.triples c.requires.start c.requires.errors c.in_ok-check_steps.ensures
    c.check_covering.ensures

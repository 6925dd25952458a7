use Rattle.std.proofs.Common.{◌≡◌, ℕ, Err, subst, sym}
use Rattle.proof_names.specs.Items.{Names}
use Rattle.proof_names.specs.Outlines.{Sketch, sketch}
use Rattle.proof_check.specs.declared.rejects.Reject.{Reject}
use Rattle.proof_check.specs.declared.rejects.RejectCause.TheVariants.{BadTriple, NoStart, OpenError}
use Rattle.proof_check.specs.Checks.{PassesIn, AreOutcomes}
use Rattle.proof_check.proofs.OutcomeLaws.{handed_on, stops_at_triples, stops_at_start, stops_at_errors}
use Rattle.proof_check.proofs.UniqueLaws.{ok_proves, ok_infeasible}
use Rattle.proof_check.proofs.checking.check_outline.Goals as goal

pub returns-in_err-check_triples-clause-outcome : goal.returns-in_err-check_triples-clause-outcome
returns-in_err-check_triples-clause-outcome c =
    handed_on _ (AreOutcomes {U = Unit {0}} c.args.icfg.now c.args.proof.now (sketch c.args.outline.now)) c.from_residual.result c.from_residual.ensures.1
    (λ x h. let q : c.in_err-check_triples.field-0.0 ≡ x = cc in
    subst (λ (y : Reject). AreOutcomes {U = Unit {0}} c.args.icfg.now c.args.proof.now (sketch c.args.outline.now) (Err y)) q
    (stops_at_triples c.args.icfg.now c.args.proof.now (sketch c.args.outline.now) c.in_err-check_triples.field-0.0 c.in_err-check_triples.ensures.outcome))

pub returns-in_err-check_start-clause-outcome : goal.returns-in_err-check_start-clause-outcome
returns-in_err-check_start-clause-outcome c =
    handed_on _ (AreOutcomes {U = Unit {0}} c.args.icfg.now c.args.proof.now (sketch c.args.outline.now)) c.from_residual-in_err-check_start.result c.from_residual-in_err-check_start.ensures.1
    (λ x h. let q : c.in_err-check_start.field-0.0 ≡ x = cc in
    subst (λ (y : Reject). AreOutcomes {U = Unit {0}} c.args.icfg.now c.args.proof.now (sketch c.args.outline.now) (Err y)) q
    (stops_at_start c.args.icfg.now c.args.proof.now (sketch c.args.outline.now) c.in_err-check_start.field-0.0 c.in_ok-check_triples.ensures.outcome c.in_err-check_start.ensures))

pub returns-in_err-check_errors-clause-outcome : goal.returns-in_err-check_errors-clause-outcome
returns-in_err-check_errors-clause-outcome c =
    handed_on _ (AreOutcomes {U = Unit {0}} c.args.icfg.now c.args.proof.now (sketch c.args.outline.now)) c.from_residual-in_err-check_errors.result c.from_residual-in_err-check_errors.ensures.1
    (λ x h. let q : c.in_err-check_errors.field-0.0 ≡ x = cc in
    subst (λ (y : Reject). AreOutcomes {U = Unit {0}} c.args.icfg.now c.args.proof.now (sketch c.args.outline.now) (Err y)) q
    (stops_at_errors c.args.icfg.now c.args.proof.now (sketch c.args.outline.now) c.in_err-check_errors.field-0.0 c.in_ok-check_triples.ensures.outcome c.in_ok-check_start.ensures c.in_err-check_errors.ensures.outcome))

pub check_plan-requires-clause-names : goal.check_plan-requires-clause-names
check_plan-requires-clause-names c = subst (λ (p : Sketch). Names c.args.icfg.now c.args.proof.now p) (sym c.in_ok-plan.ensures) c.requires

pub check_plan-requires-clause-triples : goal.check_plan-requires-clause-triples
check_plan-requires-clause-triples c =
    subst (λ (p : Sketch). (i : ℕ) → PassesIn c.args.icfg.now c.args.proof.now p BadTriple i) (sym c.in_ok-plan.ensures) c.in_ok-check_triples.ensures.outcome

pub check_plan-requires-clause-start : goal.check_plan-requires-clause-start
check_plan-requires-clause-start c = subst (λ (p : Sketch). (i : ℕ) → PassesIn c.args.icfg.now c.args.proof.now p NoStart i) (sym c.in_ok-plan.ensures) c.in_ok-check_start.ensures

pub check_plan-requires-clause-errors : goal.check_plan-requires-clause-errors
check_plan-requires-clause-errors c =
    subst (λ (p : Sketch). (i : ℕ) → PassesIn c.args.icfg.now c.args.proof.now p OpenError i) (sym c.in_ok-plan.ensures) c.in_ok-check_errors.ensures.outcome

pub returns-clause-outcome : goal.returns-clause-outcome
returns-clause-outcome c = subst (λ (p : Sketch). AreOutcomes c.args.icfg.now c.args.proof.now p c.check_plan.result) c.in_ok-plan.ensures c.check_plan.ensures

pub returns-clause-infeasible : goal.returns-clause-infeasible
returns-clause-infeasible c =
    ok_infeasible c.args.icfg.now c.args.proof.now c.check_plan.result c.check_errors.ensures.valid c.check_triples.ensures.valid
    (ok_proves c.args.icfg.now c.args.proof.now (sketch c.args.outline.now) c.check_plan.result c.requires
    (subst (λ (p : Sketch). AreOutcomes c.args.icfg.now c.args.proof.now p c.check_plan.result) c.in_ok-plan.ensures c.check_plan.ensures))

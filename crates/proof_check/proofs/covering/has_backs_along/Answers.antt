use Rattle.std.proofs.Common.{◌∙◌, sym, get_or}
use Rattle.std.proofs.lemmas.Bool.{false≢true}
use Rattle.nwa_base.specs.declared.letters.Kind.TheVariants as kinds
use Rattle.proof_check.proofs.CoverLaws.{LeadsBackAlong, leads_back_along}
use Rattle.proof_check.proofs.FirstLaws.{same_default}
use Rattle.proof_check.proofs.WalkLaws.{all_on, not_all}
use Rattle.proof_check.proofs.covering.has_backs_along.Goals as goal
use Rattle.proof_check.proofs.covering.has_backs_along.Goals.{else-edge-call-via-then-edge-call+else-not-leads_back, else-edge-call-via-else-edge-call}

pub returns-then-not-leads_back : goal.returns-then-not-leads_back
returns-then-not-leads_back c =
    let xs = c.args.edges.now in
    let i = c.loop-edge.edge-index in
    let q = get_or xs i (0, 0, record { id = 0; kind = kinds.Inside; call = 0 }, 0) in (
      λ h. absurd (false≢true h),
      λ h. absurd (not_all (LeadsBackAlong c.args.plan.now c.args.exit c.args.before c.args.call) xs i q c.loop-edge-test.true
          (same_default xs i (0, 0, record { id = 0; kind = kinds.Inside; call = 0 }, 0) q c.loop-edge-test.true) (λ p. false≢true (sym c.if-not-leads_back.true ∙ c.leads_back.ensures.1 (p c.if-edge-call.true)))
          ((leads_back_along c.args.plan.now c.args.exit c.args.before c.args.call xs).1 h)),
    )

pub loop-edge-preserved : goal.loop-edge-preserved
loop-edge-preserved c =
    let xs = c.args.edges.now in
    let i = c.loop-edge.edge-index in
    let q = get_or xs i (0, 0, record { id = 0; kind = kinds.Inside; call = 0 }, 0) in
    let more = all_on (LeadsBackAlong c.args.plan.now c.args.exit c.args.before c.args.call) xs i q c.loop-edge.invariant c.loop-edge-test.true
    (same_default xs i (0, 0, record { id = 0; kind = kinds.Inside; call = 0 }, 0) q c.loop-edge-test.true) in
    elim c.else-edge-call.branch [
      | else-edge-call-via-then-edge-call+else-not-leads_back w ↦ more (λ k. w.leads_back.ensures.0 w.if-not-leads_back.false)
      | else-edge-call-via-else-edge-call w ↦ more (λ k. absurd (w.if-edge-call.false k))
    ]

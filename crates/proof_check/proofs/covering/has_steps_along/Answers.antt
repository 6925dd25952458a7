use Rattle.std.proofs.Common.{◌∙◌, sym, get_or}
use Rattle.std.proofs.lemmas.Bool.{false≢true}
use Rattle.nwa_base.specs.declared.letters.Kind.TheVariants as kinds
use Rattle.proof_check.proofs.CoverLaws.{LeadsAlong, leads_along}
use Rattle.proof_check.proofs.FirstLaws.{same_default}
use Rattle.proof_check.proofs.WalkLaws.{all_on, not_all}
use Rattle.proof_check.proofs.covering.has_steps_along.Goals as goal

pub returns-then-not-leads_to : goal.returns-then-not-leads_to
returns-then-not-leads_to c =
    let xs = c.args.edges.now in
    let i = c.loop-edge.edge-index in
    let q = get_or xs i (0, record { id = 0; kind = kinds.Inside; call = 0 }, 0) in (
      λ h. absurd (false≢true h),
      λ h. absurd (not_all (LeadsAlong c.args.plan.now c.args.number) xs i q c.loop-edge-test.true (same_default xs i (0, record { id = 0; kind = kinds.Inside; call = 0 }, 0) q c.loop-edge-test.true)
          (λ p. false≢true (sym c.if-not-leads_to.true ∙ c.leads_to.ensures.1 p)) ((leads_along c.args.plan.now c.args.number xs).1 h)),
    )

pub loop-edge-preserved : goal.loop-edge-preserved
loop-edge-preserved c =
    let xs = c.args.edges.now in
    let i = c.loop-edge.edge-index in
    let q = get_or xs i (0, record { id = 0; kind = kinds.Inside; call = 0 }, 0) in
    all_on (LeadsAlong c.args.plan.now c.args.number) xs i q c.loop-edge.invariant c.loop-edge-test.true (same_default xs i (0, record { id = 0; kind = kinds.Inside; call = 0 }, 0) q c.loop-edge-test.true)
    (c.leads_to.ensures.0 c.if-not-leads_to.false)

use Rattle.std.proofs.Common.{◌∙◌, sym, get_or}
use Rattle.std.proofs.lemmas.Bool.{false≢true}
use Rattle.proof_check.specs.Ties.Sound.{InsideGives}
use Rattle.proof_check.proofs.FirstLaws.{same_default}
use Rattle.proof_check.proofs.WalkLaws.{all_on, not_all}
use Rattle.proof_check.proofs.sound.inside_is_shown.Goals as goal

pub returns-then-not-inside_gives : goal.returns-then-not-inside_gives
returns-then-not-inside_gives c =
    let xs = c.args.preds.now in
    let i = c.loop-pred.pred-index in
    let q = get_or xs i 0 in (
      λ h. absurd (false≢true h),
      λ h. absurd (not_all (InsideGives c.args.plan.now c.args.letter c.args.from) xs i q c.loop-pred-test.true (same_default xs i 0 q c.loop-pred-test.true)
          (λ p. false≢true (sym c.if-not-inside_gives.true ∙ c.inside_gives.ensures.1 p)) h),
    )

pub loop-pred-preserved : goal.loop-pred-preserved
loop-pred-preserved c =
    let xs = c.args.preds.now in
    let i = c.loop-pred.pred-index in
    let q = get_or xs i 0 in
    all_on (InsideGives c.args.plan.now c.args.letter c.args.from) xs i q c.loop-pred.invariant c.loop-pred-test.true (same_default xs i 0 q c.loop-pred-test.true)
    (c.inside_gives.ensures.0 c.if-not-inside_gives.false)

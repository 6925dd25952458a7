use Rattle.std.proofs.Common.{◌∙◌, sym, refl, get_or}
use Rattle.std.proofs.lemmas.Bool.{false≢true}
use Rattle.proof_check.specs.Ties.Plans.{IsOfNode}
use Rattle.proof_check.proofs.FirstLaws.{same_default}
use Rattle.proof_check.proofs.WalkLaws.{here_is, none_on, none_to}
use Rattle.proof_check.proofs.sound.inside_gives.Goals as goal

pub returns-then-is_of : goal.returns-then-is_of
returns-then-is_of c =
    let xs = c.insides-source-items.result.now in
    let i = c.loop-source.source-index in
    let q = get_or xs i 0 in
    let m = here_is xs i q c.loop-source-test.true (same_default xs i 0 q c.loop-source-test.true) in
    (λ h. (q, (c.insides-source-items.ensures q).0 m, c.is_of.ensures.0 c.if-is_of.true), λ h. refl)

pub loop-source-preserved : goal.loop-source-preserved
loop-source-preserved c =
    let xs = c.insides-source-items.result.now in
    let i = c.loop-source.source-index in
    let q = get_or xs i 0 in
    none_on (λ q. IsOfNode c.args.plan.now.nodes q c.args.from) xs i q c.loop-source.invariant c.loop-source-test.true (same_default xs i 0 q c.loop-source-test.true)
    (λ p. false≢true (sym c.if-is_of.false ∙ c.is_of.ensures.1 p))

pub returns : goal.returns
returns c = (
  λ h. absurd (false≢true h),
  λ g. absurd (none_to (λ q. IsOfNode c.args.plan.now.nodes q c.args.from) c.insides-source-items.result.now c.loop-source.source-index c.loop-source.invariant c.loop-source-test.false
      g.0 ((c.insides-source-items.ensures g.0).1 g.1) g.2),
)

use Rattle.std.proofs.Common.{◌∙◌, ℕ, sym, refl, get_or}
use Rattle.std.proofs.lemmas.Bool.{false≢true}
use Rattle.proof_check.specs.Ties.Plans.{IsOfNode}
use Rattle.proof_check.proofs.FirstLaws.{same_default}
use Rattle.proof_check.proofs.WalkLaws.{here_is, none_on, none_to}
use Rattle.proof_check.proofs.sound.back_gives.Goals as goal

pub returns-then-are_of : goal.returns-then-are_of
returns-then-are_of c =
    let xs = c.backs-source-items.result.now in
    let i = c.loop-source.source-index in
    let q = get_or xs i (0, 0) in
    let m = here_is xs i q c.loop-source-test.true (same_default xs i (0, 0) q c.loop-source-test.true) in
    let h = c.are_of.ensures.0 c.if-are_of.true in
    (λ k. (q.0, q.1, (c.backs-source-items.ensures q.0 q.1).0 m, h.0, h.1), λ k. refl)

pub loop-source-preserved : goal.loop-source-preserved
loop-source-preserved c =
    let xs = c.backs-source-items.result.now in
    let i = c.loop-source.source-index in
    let q = get_or xs i (0, 0) in
    none_on (λ (s : ℕ × ℕ). IsOfNode c.args.plan.now.nodes s.0 c.args.exit × IsOfNode c.args.plan.now.nodes s.1 c.args.before) xs i q c.loop-source.invariant c.loop-source-test.true
    (same_default xs i (0, 0) q c.loop-source-test.true) (λ p. false≢true (sym c.if-are_of.false ∙ c.are_of.ensures.1 p))

pub returns : goal.returns
returns c = (
  λ h. absurd (false≢true h),
  λ g. absurd (none_to (λ (s : ℕ × ℕ). IsOfNode c.args.plan.now.nodes s.0 c.args.exit × IsOfNode c.args.plan.now.nodes s.1 c.args.before) c.backs-source-items.result.now
      c.loop-source.source-index c.loop-source.invariant c.loop-source-test.false (g.0, g.1) ((c.backs-source-items.ensures g.0 g.1).1 g.2) (g.3, g.4)),
)

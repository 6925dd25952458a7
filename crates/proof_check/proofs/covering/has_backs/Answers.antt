use Rattle.std.proofs.Common.{◌≡◌, ◌∙◌, ℕ, [], sym, refl, ap, get_or}
use Rattle.std.proofs.lemmas.Bool.{false≢true, eqb-true}
use Rattle.nwa_base.specs.Automata.{Automaton}
use Rattle.nwa_base.specs.Edges.{backs_leaving}
use Rattle.proof_names.specs.declared.outlines.NamedStep.TheVariants as steps
use Rattle.proof_check.specs.Ties.Covering.{HasBacksFrom}
use Rattle.proof_check.proofs.CoverLaws.{no_backs, answered, nothing_there}
use Rattle.proof_check.proofs.FirstLaws.{same_default}
use Rattle.proof_check.proofs.WalkLaws.{all_on, all_to, not_all, here_is}
use Rattle.proof_check.proofs.covering.has_backs.Goals as goal

pub returns-then-is_empty : goal.returns-then-is_empty
returns-then-is_empty c =
    let z : c.backs_leaving.result.now ≡ [] = nothing_there c.backs_leaving.result.now (eqb-true _ 0 (sym c.is_empty.ensures ∙ c.if-is_empty.true)) in
    λ x e f. (
      λ t. no_backs c.args.icfg.now c.args.plan.now c.args.number c.args.place x e
          (sym (c.backs_leaving.ensures ∙ ap (λ (m : Automaton). backs_leaving c.args.place m.backs) c.nwa.ensures.value) ∙ z),
      λ h. refl,
    )

pub has_backs_from-requires-clause-before : goal.has_backs_from-requires-clause-before
has_backs_from-requires-clause-before c =
    let xs = c.entering-step-items.result.now in
    let i = c.loop-step.step-index in
    let q = get_or xs i (0, 0) in
    (c.requires (steps.Step q.0 q.1 c.args.entry)
    ((c.entering-step-items.ensures q.0 q.1).0 (here_is xs i q c.loop-step-test.true (same_default xs i (0, 0) q c.loop-step-test.true)))).0

pub returns-then-not-has_backs_from : goal.returns-then-not-has_backs_from
returns-then-not-has_backs_from c =
    let xs = c.entering-step-items.result.now in
    let i = c.loop-step.step-index in
    let q = get_or xs i (0, 0) in
    λ x e f. (
      λ h. absurd (false≢true h),
      λ h. absurd (not_all (λ (t : ℕ × ℕ). HasBacksFrom c.args.icfg.now c.args.plan.now c.args.number c.args.place t.0 t.1) xs i q c.loop-step-test.true
          (same_default xs i (0, 0) q c.loop-step-test.true) (λ p. false≢true (sym c.if-not-has_backs_from.true ∙ c.has_backs_from.ensures.1 p))
          ((answered c.args.icfg.now c.args.plan.now c.args.number c.args.place c.args.entry x xs e f c.entering-step-items.ensures).1 h)),
    )

pub loop-step-preserved : goal.loop-step-preserved
loop-step-preserved c =
    let xs = c.entering-step-items.result.now in
    let i = c.loop-step.step-index in
    let q = get_or xs i (0, 0) in
    all_on (λ (t : ℕ × ℕ). HasBacksFrom c.args.icfg.now c.args.plan.now c.args.number c.args.place t.0 t.1) xs i q c.loop-step.invariant c.loop-step-test.true
    (same_default xs i (0, 0) q c.loop-step-test.true) (c.has_backs_from.ensures.0 c.if-not-has_backs_from.false)

pub returns : goal.returns
returns c =
    λ x e f. (
      λ t. (answered c.args.icfg.now c.args.plan.now c.args.number c.args.place c.args.entry x c.entering-step-items.result.now e f c.entering-step-items.ensures).0
          (all_to (λ (t : ℕ × ℕ). HasBacksFrom c.args.icfg.now c.args.plan.now c.args.number c.args.place t.0 t.1) c.entering-step-items.result.now c.loop-step.step-index
          c.loop-step.invariant c.loop-step-test.false),
      λ h. refl,
    )

use Rattle.std.proofs.Common.{◌≡◌, ◌∙◌, ℕ, List, [], ◌∷◌, get_or, sym, ap, subst}
use Rattle.proof_reuse.specs.Ties.Choices.{numbers_in, three_sources, three_fits}
use Rattle.proof_reuse.specs.Ties.Sets.{InsertsAll}
use Rattle.proof_reuse.proofs.SetLaws.{got_any, chosen_none, chosen_puts, chosen_skips, chosen_all}
use Rattle.proof_reuse.proofs.choosing.add_three_choices.Goals as goal
use Rattle.proof_reuse.proofs.choosing.add_three_choices.Goals.{then-three_fits+in_ok-more+in_ok-add_threes, else-three_fits}

pub loop-three-init : goal.loop-three-init
loop-three-init c =
    chosen_none ((0, 0, 0) ∷ ((1, 0, 1) ∷ ((0, 1, 1) ∷ []))) (three_sources (numbers_in c.args.preds.now c.args.callee) (numbers_in c.args.preds.now c.args.caller))
    (three_fits c.args.preds.now c.args.callee c.args.caller) c.args.choices.now.keys c.requires.kept

pub loop-three-preserved : goal.loop-three-preserved
loop-three-preserved c =
    let x : ℕ × ℕ × ℕ = get_or c.args.threes.now c.loop-three.three-index (0, 0, 0) in
    let at : x ≡ get_or c.args.threes.now c.loop-three.three-index x = got_any c.args.threes.now c.loop-three.three-index (0, 0, 0) x c.loop-three-test.true in
    elim c.if-three_fits.branch [
      | then-three_fits+in_ok-more+in_ok-add_threes w ↦
          rw w.choices-is
          (chosen_puts ((0, 0, 0) ∷ ((1, 0, 1) ∷ ((0, 1, 1) ∷ []))) (three_sources (numbers_in c.args.preds.now c.args.callee) (numbers_in c.args.preds.now c.args.caller))
          (three_fits c.args.preds.now c.args.callee c.args.caller) c.args.threes.now c.loop-three.three-index x c.loop-three.choices.keys w.add_threes.new.set.keys
          c.loop-three-test.true at (sym c.three_fits.ensures ∙ w.if-three_fits.true)
          (subst (λ (l : List (ℕ × ℕ × ℕ)). InsertsAll c.loop-three.choices.keys l w.add_threes.new.set.keys)
          (w.in_ok-more.ensures ∙
          ap (λ (exits : List ℕ). three_sources exits c.args.befores.now x) c.requires.exits ∙
          ap (λ (befores : List ℕ). three_sources (numbers_in c.args.preds.now c.args.callee) befores x) c.requires.befores)
          w.in_ok-add_threes.ensures) c.loop-three.invariant)
      | else-three_fits w ↦
          rw w.choices-is
          (chosen_skips ((0, 0, 0) ∷ ((1, 0, 1) ∷ ((0, 1, 1) ∷ []))) (three_sources (numbers_in c.args.preds.now c.args.callee) (numbers_in c.args.preds.now c.args.caller))
          (three_fits c.args.preds.now c.args.callee c.args.caller) c.args.threes.now c.loop-three.three-index x c.loop-three.choices.keys c.loop-three-test.true
          at (sym c.three_fits.ensures ∙ w.if-three_fits.false) c.loop-three.invariant)
    ]

pub returns : goal.returns
returns c =
    chosen_all ((0, 0, 0) ∷ ((1, 0, 1) ∷ ((0, 1, 1) ∷ []))) (three_sources (numbers_in c.args.preds.now c.args.callee) (numbers_in c.args.preds.now c.args.caller))
    (three_fits c.args.preds.now c.args.callee c.args.caller) c.args.threes.now c.loop-three.three-index c.loop-three.choices.keys c.loop-three-test.false c.loop-three.invariant

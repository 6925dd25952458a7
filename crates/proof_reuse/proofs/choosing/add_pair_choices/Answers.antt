use Rattle.std.proofs.Common.{◌≡◌, ◌∙◌, ℕ, List, [], ◌∷◌, get_or, sym, ap, subst}
use Rattle.proof_reuse.specs.Ties.Choices.{numbers_in, pair_sources, pair_fits}
use Rattle.proof_reuse.specs.Ties.Sets.{InsertsAll}
use Rattle.proof_reuse.proofs.SetLaws.{got_any, chosen_none, chosen_puts, chosen_skips, chosen_all}
use Rattle.proof_reuse.proofs.choosing.add_pair_choices.Goals as goal
use Rattle.proof_reuse.proofs.choosing.add_pair_choices.Goals.{then-pair_fits+in_ok-more+in_ok-add_pairs, else-pair_fits}

pub loop-pair-init : goal.loop-pair-init
loop-pair-init c =
    chosen_none ((0, 0) ∷ ((1, 1) ∷ [])) (pair_sources (numbers_in c.args.preds.now c.args.from)) (pair_fits c.args.preds.now c.args.from c.args.to) c.args.choices.now.keys c.requires.kept

pub loop-pair-preserved : goal.loop-pair-preserved
loop-pair-preserved c =
    let x : ℕ × ℕ = get_or c.args.pairs.now c.loop-pair.pair-index (0, 0) in
    let at : x ≡ get_or c.args.pairs.now c.loop-pair.pair-index x = got_any c.args.pairs.now c.loop-pair.pair-index (0, 0) x c.loop-pair-test.true in
    elim c.if-pair_fits.branch [
      | then-pair_fits+in_ok-more+in_ok-add_pairs w ↦
          rw w.choices-is
          (chosen_puts ((0, 0) ∷ ((1, 1) ∷ [])) (pair_sources (numbers_in c.args.preds.now c.args.from)) (pair_fits c.args.preds.now c.args.from c.args.to) c.args.pairs.now c.loop-pair.pair-index
          x c.loop-pair.choices.keys w.add_pairs.new.set.keys c.loop-pair-test.true at (sym c.pair_fits.ensures ∙ w.if-pair_fits.true)
          (subst (λ (l : List (ℕ × ℕ)). InsertsAll c.loop-pair.choices.keys l w.add_pairs.new.set.keys)
          (w.in_ok-more.ensures ∙ ap (λ (here : List ℕ). pair_sources here x) c.requires.here) w.in_ok-add_pairs.ensures)
          c.loop-pair.invariant)
      | else-pair_fits w ↦
          rw w.choices-is
          (chosen_skips ((0, 0) ∷ ((1, 1) ∷ [])) (pair_sources (numbers_in c.args.preds.now c.args.from)) (pair_fits c.args.preds.now c.args.from c.args.to) c.args.pairs.now c.loop-pair.pair-index
          x c.loop-pair.choices.keys c.loop-pair-test.true at (sym c.pair_fits.ensures ∙ w.if-pair_fits.false) c.loop-pair.invariant)
    ]

pub returns : goal.returns
returns c =
    chosen_all ((0, 0) ∷ ((1, 1) ∷ [])) (pair_sources (numbers_in c.args.preds.now c.args.from)) (pair_fits c.args.preds.now c.args.from c.args.to) c.args.pairs.now c.loop-pair.pair-index
    c.loop-pair.choices.keys c.loop-pair-test.false c.loop-pair.invariant

use Rattle.std.proofs.Common.{rules, ◌≡◌, ℕ, zero, suc, ◌<◌, ℤ, pos, List, [], ◌∷◌, ◌++◌, length, Some, map, get_or, subst, sym, refl, arith, FitsSigned}
use Rattle.std.specs.Int.{w128}
use Rattle.std.specs.List.{AllByRecursion}
use Rattle.std.proofs.lemmas.Int.{to_z-of_z}
use Rattle.math_facts.specs.Fits.{Fits}
use Rattle.trace_replay.specs.ToldChoices.Telling.{ChoiceFits, ChoicesFit}
use Rattle.trace_replay.proofs.ToldChoices.Steps.{all_snoc}
use Rattle.trace_replay.proofs.ToldChoices.Turns.{turn}
use Rattle.trace_replay.proofs.LastTurns.{last_turn}
use Rattle.trace_replay.proofs.told_choices.telling.add_some.Goals as goal

fits_at : (xs : List ℤ) (i : ℕ) → AllByRecursion Fits xs → i < length xs → Fits (get_or xs i (pos 0))
fits_at [] i a l = absurd (omega arith)
fits_at (x ∷ xs) zero a l = a.0
fits_at (x ∷ xs) (suc i) a l = fits_at xs i a.1 (omega arith)

pub loop-value-preserved : goal.loop-value-preserved
loop-value-preserved c =
    let z : ℤ = get_or c.args.values.now c.loop-value.value-index (pos 0) in
    let f : FitsSigned w128 (get_or c.args.values.now c.loop-value.value-index (pos 0)) = search rules in
    let p : c.push.new.self.items ≡ c.loop-value.told.items ++ Some z ∷ [] = simp to_z-of_z at c.in_ok-push.ensures.items in
    record {
      value =
          turn (λ (zs : List ℤ). map (λ (y : ℤ). Some y) zs) c.args.values.now c.loop-value.value-index (pos 0) c.loop-value.told.items c.push.new.self.items
          (c.args.told.now.items ++ map (λ (y : ℤ). Some y) c.args.values.now) (Some z ∷ []) c.loop-value-test.true refl p c.loop-value.invariant.value;
      fits = λ a h.
          subst ChoicesFit (sym p) (all_snoc ChoiceFits c.loop-value.told.items (Some z) (c.loop-value.invariant.fits a h) (fits_at c.args.values.now c.loop-value.value-index a c.loop-value-test.true));
    }

pub loop-value-init : goal.loop-value-init
loop-value-init c = record { value = refl; fits = λ a h. h }

pub returns-clause-value : goal.returns-clause-value
returns-clause-value c =
    last_turn (λ (zs : List ℤ). map (λ (y : ℤ). Some y) zs) c.args.values.now c.loop-value.value-index c.loop-value.told.items
    (c.args.told.now.items ++ map (λ (y : ℤ). Some y) c.args.values.now) refl c.loop-value-test.false c.loop-value.invariant.value

pub returns-clause-fits : goal.returns-clause-fits
returns-clause-fits c = c.loop-value.invariant.fits

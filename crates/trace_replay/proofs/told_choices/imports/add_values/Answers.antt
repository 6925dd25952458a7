use Rattle.std.proofs.Common.{rules, ◌≡◌, ℕ, ◌+◌, ℤ, List, [], ◌∷◌, ◌++◌, Some, map, drop, refl, subst, sym, FitsSigned}
use Rattle.std.specs.Int.{w128}
use Rattle.std.proofs.lemmas.Int.{to_z-of_z}
use Rattle.letter_acts.specs.Values.{picked}
use Rattle.trace_replay.specs.ToldChoices.Telling.{ChoiceFits, ChoicesFit}
use Rattle.trace_replay.proofs.ToldChoices.Steps.{all_snoc}
use Rattle.trace_replay.proofs.ToldChoices.Turns.{turn}
use Rattle.trace_replay.proofs.LastTurns.{last_turn}
use Rattle.trace_replay.proofs.told_choices.imports.add_values.Goals as goal

pub loop-column-preserved : goal.loop-column-preserved
loop-column-preserved c =
    let f : FitsSigned w128 c.value_at.result = search rules in
    let p : c.push.new.self.items ≡ c.loop-column.told.items ++ Some c.value_at.result ∷ [] = simp to_z-of_z at c.in_ok-push.ensures.items in
    record {
      value =
          turn (λ (cs : List ℕ). map (λ (z : ℤ). Some z) (picked c.args.after.now cs)) c.args.columns.now c.loop-column.column-index 0 c.loop-column.told.items c.push.new.self.items
          (c.args.told.now.items ++ map (λ (z : ℤ). Some z) (picked c.args.after.now c.args.columns.now)) (Some c.value_at.result ∷ []) c.loop-column-test.true
          (λ j. Some (sym c.value_at.ensures.value j) ∷ map (λ (z : ℤ). Some z) (picked c.args.after.now (drop (c.loop-column.column-index + 1) c.args.columns.now))) p c.loop-column.invariant.value;
      fits = λ a h. subst ChoicesFit (sym p) (all_snoc ChoiceFits c.loop-column.told.items (Some c.value_at.result) (c.loop-column.invariant.fits a h) (c.value_at.ensures.fits a));
    }

pub loop-column-init : goal.loop-column-init
loop-column-init c = record { value = refl; fits = λ a h. h }

pub returns-clause-value : goal.returns-clause-value
returns-clause-value c =
    last_turn (λ (cs : List ℕ). map (λ (z : ℤ). Some z) (picked c.args.after.now cs)) c.args.columns.now c.loop-column.column-index c.loop-column.told.items
    (c.args.told.now.items ++ map (λ (z : ℤ). Some z) (picked c.args.after.now c.args.columns.now)) refl c.loop-column-test.false c.loop-column.invariant.value

pub returns-clause-fits : goal.returns-clause-fits
returns-clause-fits c = c.loop-column.invariant.fits

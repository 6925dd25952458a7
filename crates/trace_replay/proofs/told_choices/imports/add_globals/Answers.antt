use Rattle.std.proofs.Common.{rules, ◌≡◌, ◌∙◌, ℕ, ◌+◌, ℤ, List, [], ◌∷◌, ◌++◌, Option, Some, map, drop, get_or, ap, refl, subst, sym, FitsSigned}
use Rattle.std.specs.Int.{w128}
use Rattle.std.proofs.lemmas.Int.{to_z-of_z}
use Rattle.lowered_graph.specs.LoweredSteps.Edges.{found_from}
use Rattle.lowered_graph.specs.LoweredImports.Imports.{told_global, told_globals}
use Rattle.trace_replay.specs.ToldChoices.Telling.{ChoiceFits, ChoicesFit}
use Rattle.trace_replay.proofs.ToldChoices.Steps.{all_snoc}
use Rattle.trace_replay.proofs.ToldChoices.Turns.{turn}
use Rattle.trace_replay.proofs.LastTurns.{last_turn}
use Rattle.trace_replay.proofs.told_choices.imports.add_globals.Goals as goal

pub loop-global-init : goal.loop-global-init
loop-global-init c = record {
  value =
      ap
      (λ (ns : List ℕ). c.args.told.now.items
      ++ map (λ (z : ℤ). Some z) (map (λ (g : ℕ). told_global c.args.globals.now c.args.helpers.now c.args.after.now (found_from 0 ns g) g) c.args.modified.now))
      c.in_ok-shared.ensures;
  fits = λ a b h. h;
}

pub loop-global-preserved : goal.loop-global-preserved
loop-global-preserved c =
    let f : FitsSigned w128 c.chosen_global.result = search rules in
    let p : c.push.new.self.items ≡ c.loop-global.told.items ++ Some c.chosen_global.result ∷ [] = simp to_z-of_z at c.in_ok-push.ensures.items in
    let n : ℕ = get_or c.args.modified.now c.loop-global.global-index 0 in
    let T : ℕ → ℤ = λ g. told_global c.args.globals.now c.args.helpers.now c.args.after.now (found_from 0 c.in_ok-shared.shared.items g) g in
    let o : c.place_of-helper.result ≡ found_from 0 c.in_ok-shared.shared.items n = c.place_of-helper.ensures ∙ ap (λ (ns : List ℕ). found_from 0 ns n) c.deref.ensures.value in
    let v : c.chosen_global.result ≡ T n =
    c.chosen_global.ensures.value ∙ ap (λ (x : Option ℕ). told_global c.args.globals.now c.args.helpers.now c.args.after.now x n) o in
    record {
      value =
          turn (λ (gs : List ℕ). map (λ (z : ℤ). Some z) (map T gs)) c.args.modified.now c.loop-global.global-index 0 c.loop-global.told.items c.push.new.self.items
          (c.args.told.now.items ++ map (λ (z : ℤ). Some z) (told_globals c.args.globals.now c.args.modified.now c.args.targets.now c.args.helpers.now c.args.after.now))
          (Some c.chosen_global.result ∷ []) c.loop-global-test.true
          (λ j. Some (sym v j) ∷ map (λ (z : ℤ). Some z) (map T (drop (c.loop-global.global-index + 1) c.args.modified.now))) p c.loop-global.invariant.value;
      fits = λ a b h. subst ChoicesFit (sym p) (all_snoc ChoiceFits c.loop-global.told.items (Some c.chosen_global.result) (c.loop-global.invariant.fits a b h) (c.chosen_global.ensures.fits a b));
    }

pub returns-clause-value : goal.returns-clause-value
returns-clause-value c =
    last_turn (λ (gs : List ℕ). map (λ (z : ℤ). Some z) (map (λ (g : ℕ). told_global c.args.globals.now c.args.helpers.now c.args.after.now (found_from 0 c.in_ok-shared.shared.items g) g) gs))
    c.args.modified.now c.loop-global.global-index c.loop-global.told.items
    (c.args.told.now.items ++ map (λ (z : ℤ). Some z) (told_globals c.args.globals.now c.args.modified.now c.args.targets.now c.args.helpers.now c.args.after.now)) refl
    c.loop-global-test.false c.loop-global.invariant.value

pub returns-clause-fits : goal.returns-clause-fits
returns-clause-fits c = c.loop-global.invariant.fits

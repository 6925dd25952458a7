-- The choices among what steps take, up to one of them.
use Rattle.std.proofs.Common.{◌≡◌, ◌∙◌, ℕ, ◌+◌, ◌<◌, ◌≤◌, ℤ, List, [], ◌∷◌, ◌++◌, length, get_or, drop, Option, None, Some, sym, ap, subst, append-nil}
use Rattle.std.specs.List.{AllByRecursion}
use Rattle.std.proofs.lemmas.List.{drop_more, map-append}
use Rattle.math_facts.specs.Fits.{Fits}
use Rattle.boogie_run.specs.declared.types.Choice.{Choice}
use Rattle.trace_replay.specs.FailureText.{numbers}
use Rattle.trace_replay.specs.Replays.{choices_among}
use Rattle.trace_replay.specs.ToldChoices.Telling.{ChoiceFits, ChoicesFit}
use Rattle.trace_replay.proofs.ToldChoices.Steps.{all_snoc, drop_past}
use Rattle.trace_replay.proofs.ToldChoices.Turns.{turn}

one_number_more : (old new : List Choice) (c : Choice) → new ≡ old ++ c ∷ [] → numbers new ≡ numbers old ++ c.0 ∷ []
one_number_more old new c pushed = ap numbers pushed ∙ map-append (λ (x : Choice). x.0) old (c ∷ [])

-- a step that takes a value
pub value_chosen : (taken : List (Option ℤ)) (i : ℕ) (d : Option ℤ) (old new : List Choice) (c : Choice) → i < length taken → get_or taken i d ≡ Some c.0 → new ≡ old ++ c ∷ [] → numbers old ++ choices_among (drop i taken) ≡ choices_among taken → numbers new ++ choices_among (drop (i + 1) taken) ≡ choices_among taken
value_chosen taken i d old new c l here pushed so_far =
    turn choices_among taken i d (numbers old) (numbers new) (choices_among taken) (c.0 ∷ []) l (ap (λ (x : Option ℤ). choices_among (x ∷ drop (i + 1) taken)) here) (one_number_more old new c pushed) so_far

-- and one that takes none
pub none_chosen : (taken : List (Option ℤ)) (i : ℕ) (d : Option ℤ) (old : List Choice) → i < length taken → get_or taken i d ≡ None → numbers old ++ choices_among (drop i taken) ≡ choices_among taken → numbers old ++ choices_among (drop (i + 1) taken) ≡ choices_among taken
none_chosen taken i d old l here so_far =
    turn choices_among taken i d (numbers old) (numbers old) (choices_among taken) [] l (ap (λ (x : Option ℤ). choices_among (x ∷ drop (i + 1) taken)) here) (sym (append-nil (numbers old))) so_far

-- what is left fits where it did before the step
pub left_fit : (taken : List (Option ℤ)) (i : ℕ) (d : Option ℤ) → i < length taken → ChoicesFit (drop i taken) → ChoiceFits (get_or taken i d) × ChoicesFit (drop (i + 1) taken)
left_fit taken i d l h = subst ChoicesFit (drop_more taken i d l) h

pub chosen_fit : (x : Option ℤ) (old new : List Choice) (c : Choice) → x ≡ Some c.0 → new ≡ old ++ c ∷ [] → ChoiceFits x → AllByRecursion Fits (numbers old) → AllByRecursion Fits (numbers new)
chosen_fit x old new c here pushed fits h =
    subst (AllByRecursion Fits) (sym (one_number_more old new c pushed)) (all_snoc Fits (numbers old) c.0 h (subst ChoiceFits here fits))

-- behind the last step
pub all_chosen : (taken : List (Option ℤ)) (i : ℕ) (choices : List Choice) → length taken ≤ i → numbers choices ++ choices_among (drop i taken) ≡ choices_among taken → numbers choices ≡ choices_among taken
all_chosen taken i choices l so_far = sym (append-nil (numbers choices)) ∙ ap (λ (xs : List (Option ℤ)). numbers choices ++ choices_among xs) (sym (drop_past taken i l)) ∙ so_far

-- The numbers of choices, taken one after another.
use Rattle.std.proofs.Common.{◌≡◌, ◌∙◌, ℕ, ◌<◌, ◌≤◌, ◌+◌, ℤ, List, [], ◌∷◌, ◌++◌, length, take, get_or, sym, ap}
use Rattle.std.proofs.lemmas.List.{map_more, take_all}
use Rattle.boogie_run.specs.declared.types.Choice.{Choice}
use Rattle.trace_replay.specs.FailureText.{numbers}

pub numbers_more : (choices : List Choice) (i : ℕ) (d : Choice) (old new : List ℤ) → i < length choices → old ≡ numbers (take i choices) →
    new ≡ old ++ (get_or choices i d).0 ∷ [] → new ≡ numbers (take (i + 1) choices)
numbers_more choices i d old new l h e =
    e ∙ ap (λ (ns : List ℤ). ns ++ (get_or choices i d).0 ∷ []) h ∙ sym (map_more (λ (c : Choice). c.0) choices i d l)

pub numbers_all : (choices : List Choice) (i : ℕ) (new : List ℤ) → length choices ≤ i → new ≡ numbers (take i choices) → new ≡ numbers choices
numbers_all choices i new l h = h ∙ ap (λ (cs : List Choice). numbers cs) (take_all i choices l)

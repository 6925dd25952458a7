-- Choices that are added at the end.
use Rattle.std.proofs.Common.{◌≡◌, ◌∙◌, List, [], ◌∷◌, ◌++◌, length, drop, refl, sym, ap, subst}
use Rattle.std.specs.List.{AllByRecursion}
use Rattle.std.proofs.lemmas.List.{drop_at, map-append}
use Rattle.math_facts.specs.Fits.{Fits}
use Rattle.boogie_run.specs.declared.types.Choice.{Choice}
use Rattle.trace_replay.specs.FailureText.{numbers}
use Rattle.trace_replay.proofs.ToldChoices.Steps.{all_snoc}

-- their numbers stand behind those of the others
pub numbers_behind : (old new more : List Choice) → new ≡ old ++ more → numbers new ≡ numbers old ++ numbers (drop (length old) new)
numbers_behind old new more e =
    ap numbers e ∙ map-append (λ (x : Choice). x.0) old more ∙ ap (λ (xs : List Choice). numbers old ++ numbers xs) (sym (ap (drop (length old)) e ∙ drop_at old more (length old) refl))

-- all fit where they did, and the one that is added does
pub one_more_fit : (old new : List Choice) (c : Choice) → new ≡ old ++ c ∷ [] → AllByRecursion Fits (numbers old) → Fits c.0 → AllByRecursion Fits (numbers new)
one_more_fit old new c e h f =
    subst (AllByRecursion Fits) (sym (ap numbers e ∙ map-append (λ (x : Choice). x.0) old (c ∷ []))) (all_snoc Fits (numbers old) c.0 h f)

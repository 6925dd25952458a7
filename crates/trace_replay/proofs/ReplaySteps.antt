-- One step of a replay.
use Rattle.std.proofs.Common.{◌≡◌, ℕ, ◌+◌, ℤ, false, List, [], ◌∷◌, ◌++◌, Option, None, Some, refl, sym, ap, ◌∙◌, arith, append_assoc, length-append}
use Rattle.std.specs.Option.{option_to_list}
use Rattle.std.proofs.lemmas.Bool.{false≢true}
use Rattle.typed_tree.specs.TypedTree.{TypedProgram}
use Rattle.boogie_run.specs.Configurations.{Config}
use Rattle.boogie_run.specs.Needs.{Need, Nothing, Whole, Truth, Below, is_taken}
use Rattle.boogie_run.specs.Steps.{Went, start, step}
use Rattle.boogie_run.specs.Runs.{then_goes_on, run}
use Rattle.trace_replay.specs.Replays.{choices_among}
use Rattle.trace_replay.specs.ReplayCauses.{HasMade, StepEnds}
use Rattle.trace_replay.specs.NextChoices.{next_choice}
use Rattle.trace_replay.proofs.ReplayRuns.{run_first}
use Rattle.trace_replay.proofs.ReplayLaws.{choices_among-append, choices_among-one, both_fit}

-- what is taken of the choices, and what is left
pub next_first : (n : Need) (left : List ℤ) → left ≡ option_to_list (next_choice n left).0 ++ (next_choice n left).1
next_first Nothing left = refl
next_first Whole [] = refl
next_first Whole (z ∷ left) = refl
next_first Truth [] = refl
next_first Truth (z ∷ left) = refl
next_first (Below m) [] = refl
next_first (Below m) (z ∷ left) = refl

-- nothing is taken though something is needed: nothing is left
pub none_left : (n : Need) (left : List ℤ) → is_taken n None ≡ false → (next_choice n left).0 ≡ None → left ≡ []
none_left Nothing left h e = absurd (false≢true (sym h))
none_left Whole [] h e = refl
none_left Whole (z ∷ left) h e = absurd (let no : ⊥ = cc in no)
none_left Truth [] h e = refl
none_left Truth (z ∷ left) h e = absurd (let no : ⊥ = cc in no)
none_left (Below m) [] h e = refl
none_left (Below m) (z ∷ left) h e = absurd (let no : ⊥ = cc in no)

-- a choice is taken only where one is needed
pub some_needed : (n : Need) (left : List ℤ) (z : ℤ) → (next_choice n left).0 ≡ Some z → is_taken n None ≡ false
some_needed Nothing left z e = absurd (let no : ⊥ = cc in no)
some_needed Whole left z e = refl
some_needed Truth left z e = refl
some_needed (Below m) left z e = refl

-- a run and one more step
pub run_more : (t : TypedProgram) (c d : Config) (xs : List (Option ℤ)) (x : Option ℤ) → run t c xs ≡ Went d → run t c (xs ++ x ∷ []) ≡ then_goes_on (step t d x) (λ e. Went e)
run_more t c d [] x e = let here : Went c ≡ Went d = e in let same : c ≡ d = cc in ap (λ k. then_goes_on (step t k x) (λ e. Went e)) same
run_more t c d (y ∷ xs) x e =
    let first = run_first t c d y xs e in
    ap (λ o. then_goes_on o (λ b. run t b (xs ++ x ∷ []))) first.1 ∙ run_more t first.0 d xs x first.2

-- no step is made yet
pub none_made : (t : TypedProgram) (choices : List ℤ) → HasMade t choices 0 (start t) choices
none_made t choices = record { taken = []; many = refl; used = refl; leads = refl; fit = tt }

-- a step that goes on
pub one_more_made : (t : TypedProgram) (choices : List ℤ) (made : ℕ) (c d : Config) (left rest : List ℤ) → HasMade t choices made c left → StepEnds t c left (Went d) rest → HasMade t choices (made + 1) d rest
one_more_made t choices made c d left rest h s =
    let x = s.choice in
    record {
      taken = h.taken ++ x ∷ [];
      many = omega (arith, length-append h.taken (x ∷ []), h.many);
      used =
          ap (λ zs. zs ++ rest) (choices_among-append h.taken (x ∷ []) ∙ ap (λ zs. choices_among h.taken ++ zs) (choices_among-one x))
          ∙ append_assoc (choices_among h.taken) (option_to_list x) rest
          ∙ ap (λ zs. choices_among h.taken ++ zs) (sym s.first)
          ∙ h.used;
      leads = run_more t (start t) c h.taken x h.leads ∙ ap (λ o. then_goes_on o (λ e. Went e)) s.ends;
      fit = both_fit t (start t) c h.taken (x ∷ []) h.leads h.fit (s.fit, λ d e. tt);
    }

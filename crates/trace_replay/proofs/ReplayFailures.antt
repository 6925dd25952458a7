-- Replays and runs that fail.
use Rattle.std.proofs.Common.{◌≡◌, ℕ, suc, ◌<◌, ℤ, List, [], ◌∷◌, ◌++◌, length, Option, refl, sym, ap, ◌∙◌, subst, arith, length-append}
use Rattle.typed_tree.specs.TypedTree.{TypedProgram}
use Rattle.boogie_run.specs.Configurations.{Config}
use Rattle.boogie_run.specs.Steps.{Outcome, Went, Blocked, Failed, Ended, Refused, start, step}
use Rattle.boogie_run.specs.Runs.{then_goes_on, run, ChoicesFail}
use Rattle.trace_replay.specs.Replays.{choices_among, StepsFit, Replays}
use Rattle.trace_replay.proofs.ReplaySteps.{run_more}

-- the choices of what replays fail
pub replays_fails : (t : TypedProgram) (n : ℕ) (choices : List ℤ) (i : ℕ) → Replays t n choices i → ChoicesFail t i
replays_fails t n choices i r =
    (r.taken ++ r.last ∷ [], run_more t (start t) r.before r.taken r.last r.leads ∙ ap (λ o. then_goes_on o (λ e. Went e)) r.fails)

-- The first steps of a run that fails, up to the one that does.
record FailsBy (t : TypedProgram) (c : Config) (steps : ℕ) (i : ℕ) : Type 0 where
  taken : List (Option ℤ)
  last : Option ℤ
  before : Config
  many : length taken < steps
  leads : run t c taken ≡ Went before
  fails : step t before last ≡ Failed i
  fit : StepsFit t c (taken ++ last ∷ [])

fails_first : (t : TypedProgram) (c : Config) (x : Option ℤ) (xs : List (Option ℤ)) (i : ℕ) (o : Outcome) → step t c x ≡ o → then_goes_on o (λ d. run t d xs) ≡ Failed i → StepsFit t c (x ∷ xs) → ((d : Config) → o ≡ Went d → run t d xs ≡ Failed i → FailsBy t d (length xs) i) → FailsBy t c (suc (length xs)) i
fails_first t c x xs i (Went d) e h fit later =
    let more = later d refl h in
    record {
      taken = x ∷ more.taken;
      last = more.last;
      before = more.before;
      many = omega (arith, more.many);
      leads = ap (λ o. then_goes_on o (λ b. run t b more.taken)) e ∙ more.leads;
      fails = more.fails;
      fit = (
        fit.0,
        λ b same.
            let here : Went d ≡ Went b = sym e ∙ same in
            let at : d ≡ b = cc in
            subst (λ k. StepsFit t k (more.taken ++ more.last ∷ [])) at more.fit,
      );
    }
fails_first t c x xs i Blocked e h fit later = absurd (let no : ⊥ = cc in no)
fails_first t c x xs i (Failed j) e h fit later = record {
  taken = [];
  last = x;
  before = c;
  many = omega arith;
  leads = refl;
  fails = e ∙ h;
  fit = (fit.0, λ d same. tt);
}
fails_first t c x xs i Ended e h fit later = absurd (let no : ⊥ = cc in no)
fails_first t c x xs i Refused e h fit later = absurd (let no : ⊥ = cc in no)

fails_by : (t : TypedProgram) (c : Config) (xs : List (Option ℤ)) (i : ℕ) → run t c xs ≡ Failed i → StepsFit t c xs → FailsBy t c (length xs) i
fails_by t c [] i h fit = absurd (let no : ⊥ = cc in no)
fails_by t c (x ∷ xs) i h fit =
    fails_first t c x xs i (step t c x) refl h fit (λ d e more. fails_by t d xs i more (fit.1 d e))

-- a run that fails replays by its choices, where each value on the way fits
pub failing_run_replays : (t : TypedProgram) (steps : List (Option ℤ)) (i : ℕ) → run t (start t) steps ≡ Failed i → StepsFit t (start t) steps → (choices : List ℤ) × Replays t (length steps) choices i
failing_run_replays t steps i h fit =
    let f = fails_by t (start t) steps i h fit in (
      choices_among (f.taken ++ f.last ∷ []),
      record {
        taken = f.taken;
        last = f.last;
        before = f.before;
        in_time = omega (arith, f.many, length-append f.taken (f.last ∷ []));
        all_used = refl;
        leads = f.leads;
        fails = f.fails;
        fit = f.fit;
      },
    )

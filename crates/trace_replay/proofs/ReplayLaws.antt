-- What is answered of a replay is determined.
use Rattle.std.proofs.Common.{◌≡◌, ℕ, ◌+◌, ◌<◌, ℤ, inl, inr, List, [], ◌∷◌, ◌++◌, length, Option, None, Some, refl, sym, ap, ◌∙◌, subst, arith, length-append}
use Rattle.std.specs.Option.{option_to_list}
use Rattle.std.proofs.lemmas.List.{append-nil}
use Rattle.typed_tree.specs.TypedTree.{TypedProgram}
use Rattle.boogie_run.specs.Configurations.{Config}
use Rattle.boogie_run.specs.Steps.{Went, Failed, start}
use Rattle.boogie_run.specs.Runs.{run}
use Rattle.trace_replay.specs.declared.causes.ReplayCause.{ReplayCause}
use Rattle.trace_replay.specs.Replays.{choices_among, StepsFit, Replays}
use Rattle.trace_replay.specs.ReplayCauses.{HasMade, StepEnds, StopsWithin, RunsOut, StopsAt}
use Rattle.trace_replay.proofs.ReplayRuns.{run_first}
use Rattle.trace_replay.proofs.ReplayTurns.{Replayed, StopsBy, IsEnd, stops_turn, fails_turn, no_further, one_end}

-- The choices of all steps

pub choices_among-append : (xs ys : List (Option ℤ)) → choices_among (xs ++ ys) ≡ choices_among xs ++ choices_among ys
choices_among-append [] ys = refl
choices_among-append (None ∷ xs) ys = choices_among-append xs ys
choices_among-append (Some z ∷ xs) ys = ap (λ zs. z ∷ zs) (choices_among-append xs ys)

pub choices_among-one : (x : Option ℤ) → choices_among (x ∷ []) ≡ option_to_list x
choices_among-one None = refl
choices_among-one (Some z) = refl

-- steps that fit, cut
pub front_fits : (t : TypedProgram) (c : Config) (xs ys : List (Option ℤ)) → StepsFit t c (xs ++ ys) → StepsFit t c xs
front_fits t c [] ys h = tt
front_fits t c (x ∷ xs) ys h = (h.0, λ d e. front_fits t d xs ys (h.1 d e))

pub back_fits : (t : TypedProgram) (c d : Config) (xs ys : List (Option ℤ)) → run t c xs ≡ Went d → StepsFit t c (xs ++ ys) → StepsFit t d ys
back_fits t c d [] ys e h = let here : Went c ≡ Went d = e in let same : c ≡ d = cc in subst (λ k. StepsFit t k ys) same h
back_fits t c d (x ∷ xs) ys e h = let first = run_first t c d x xs e in back_fits t first.0 d xs ys first.2 (h.1 first.0 first.1)

pub both_fit : (t : TypedProgram) (c d : Config) (xs ys : List (Option ℤ)) → run t c xs ≡ Went d → StepsFit t c xs → StepsFit t d ys → StepsFit t c (xs ++ ys)
both_fit t c d [] ys e h k = let here : Went c ≡ Went d = e in let same : c ≡ d = cc in subst (λ k. StepsFit t k ys) (sym same) k
both_fit t c d (x ∷ xs) ys e h k =
    let first = run_first t c d x xs e in (
      h.0,
      λ b same_step.
          let here : Went first.0 ≡ Went b = sym first.1 ∙ same_step in
          let same : first.0 ≡ b = cc in
          both_fit t b d xs ys (ap (λ k. run t k xs) (sym same) ∙ first.2) (h.1 b same_step) k,
    )

-- The last step of a replay

pub record FailsAt (t : TypedProgram) (n : ℕ) (choices : List ℤ) (i : ℕ) : Type 0 where
  pub made : ℕ
  pub in_time : made < n
  pub here : Config
  pub left : List ℤ
  pub comes : HasMade t choices made here left
  pub fails : StepEnds t here left (Failed i) []

pub replays_at : (t : TypedProgram) (n : ℕ) (choices : List ℤ) (i : ℕ) → Replays t n choices i → FailsAt t n choices i
replays_at t n choices i r = record {
  made = length r.taken;
  in_time = omega (arith, r.in_time, length-append r.taken (r.last ∷ []));
  here = r.before;
  left = option_to_list r.last;
  comes = record {
    taken = r.taken;
    many = refl;
    used = ap (λ zs. choices_among r.taken ++ zs) (sym (choices_among-one r.last)) ∙ sym (choices_among-append r.taken (r.last ∷ [])) ∙ r.all_used;
    leads = r.leads;
    fit = front_fits t (start t) r.taken (r.last ∷ []) r.fit;
  };
  fails = record {
    choice = r.last;
    first = sym (append-nil (option_to_list r.last));
    fit = (back_fits t (start t) r.before r.taken (r.last ∷ []) r.leads r.fit).0;
    ends = r.fails;
  };
}

-- and where it fails with all choices used, it replays
abbrev pub fails_at_replays : (t : TypedProgram) (n : ℕ) (choices : List ℤ) (i : ℕ) → FailsAt t n choices i → Replays t n choices i
fails_at_replays t n choices i h =
    let taken = h.comes.taken in
    let last = h.fails.choice in
    record {
      taken = taken;
      last = last;
      before = h.here;
      in_time = omega (arith, h.in_time, h.comes.many, length-append taken (last ∷ []));
      all_used =
          choices_among-append taken (last ∷ [])
          ∙ ap (λ zs. choices_among taken ++ zs) (choices_among-one last ∙ sym (append-nil (option_to_list last)) ∙ sym h.fails.first)
          ∙ h.comes.used;
      leads = h.comes.leads;
      fails = h.fails.ends;
      fit = both_fit t (start t) h.here taken (last ∷ []) h.comes.leads h.comes.fit (h.fails.fit, λ d e. tt);
    }

-- One answer

pub cause_ends : (cause : ReplayCause) → IsEnd (StopsBy cause)
cause_ends cause e = let no : ⊥ = cc in no

pub replay_ends : (i : ℕ) → IsEnd (Replayed i)
replay_ends i e = let no : ⊥ = cc in no

pub one_assertion_replays : (t : TypedProgram) (n : ℕ) (choices : List ℤ) (i j : ℕ) → Replays t n choices i → Replays t n choices j → i ≡ j
one_assertion_replays t n choices i j p q =
    let x = replays_at t n choices i p in
    let y = replays_at t n choices j q in
    let same = (one_end t choices x.made y.made x.here y.here x.left y.left (Replayed i) (Replayed j) x.comes y.comes
    (fails_turn t x.here x.left i x.fails) (fails_turn t y.here y.left j y.fails) (replay_ends i) (replay_ends j)).1 in
    cc

pub replays_and_stops : (t : TypedProgram) (n : ℕ) (choices : List ℤ) (i k : ℕ) (cause : ReplayCause) → Replays t n choices i → StopsAt t n choices k cause → ⊥
replays_and_stops t n choices i k cause p (inl s) =
    let x = replays_at t n choices i p in
    let same = (one_end t choices x.made s.made x.here s.here x.left s.left (Replayed i) (StopsBy cause) x.comes s.comes
    (fails_turn t x.here x.left i x.fails) (stops_turn t s.here s.left cause s.stops) (replay_ends i) (cause_ends cause)).1 in
    let no : ⊥ = cc in no
replays_and_stops t n choices i k cause p (inr s) =
    let x = replays_at t n choices i p in
    no_further t choices x.made n x.here s.2.here x.left s.2.left (Replayed i) x.comes s.2.comes x.in_time (fails_turn t x.here x.left i x.fails) (replay_ends i)

stop_and_out : (t : TypedProgram) (n : ℕ) (choices : List ℤ) (k : ℕ) (cause : ReplayCause) → StopsWithin t n choices k cause → RunsOut t n choices → ⊥
stop_and_out t n choices k cause s o = no_further t choices s.made n s.here o.here s.left o.left (StopsBy cause) s.comes o.comes s.in_time (stops_turn t s.here s.left cause s.stops) (cause_ends cause)

pub one_cause : (t : TypedProgram) (n : ℕ) (choices : List ℤ) (k l : ℕ) (a b : ReplayCause) → StopsAt t n choices k a → StopsAt t n choices l b → (k ≡ l) × (a ≡ b)
one_cause t n choices k l a b (inl p) (inl q) =
    let same = one_end t choices p.made q.made p.here q.here p.left q.left (StopsBy a) (StopsBy b) p.comes q.comes
    (stops_turn t p.here p.left a p.stops) (stops_turn t q.here q.left b q.stops) (cause_ends a) (cause_ends b) in
    let causes = same.1 in
    (p.number ∙ ap (λ m. m + 1) same.0 ∙ sym q.number, cc)
one_cause t n choices k l a b (inl p) (inr q) = absurd (stop_and_out t n choices k a p q.2)
one_cause t n choices k l a b (inr p) (inl q) = absurd (stop_and_out t n choices l b q p.2)
one_cause t n choices k l a b (inr p) (inr q) = (p.1 ∙ sym q.1, p.0 ∙ sym q.0)

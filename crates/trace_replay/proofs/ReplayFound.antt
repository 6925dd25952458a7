-- What the code finds is what is due.
use Rattle.std.proofs.Common.{◌≡◌, ◌≢◌, ℕ, ◌+◌, ◌<◌, ℤ, ◌⊎◌, inl, inr, List, [], Result, Err, refl, subst}
use Rattle.typed_tree.specs.TypedTree.{TypedProgram}
use Rattle.boogie_run.specs.declared.types.AssertId.{AssertId}
use Rattle.boogie_run.specs.Configurations.{Config}
use Rattle.boogie_run.specs.Steps.{Failed}
use Rattle.boogie_run.specs.StepView.{line_at}
use Rattle.trace_replay.specs.declared.causes.ReplayCause.{ReplayCause}
use Rattle.trace_replay.specs.declared.causes.ReplayCause.TheVariants.{Blocked, Ended, Short, Number, BadChoice, Product}
use Rattle.trace_replay.specs.declared.causes.ReplayFault.{ReplayFault}
use Rattle.trace_replay.specs.declared.causes.ReplayFault.TheVariants.{At, Memory}
use Rattle.trace_replay.specs.Replays.{Replays, IsReplayed}
use Rattle.trace_replay.specs.ReplayCauses.{HasMade, StepEnds, Stops, StopsAt}
use Rattle.trace_replay.specs.ReplayAnswers.{Halts}
use Rattle.trace_replay.proofs.ReplayLaws.{FailsAt, fails_at_replays, one_assertion_replays, replays_and_stops, one_cause}

-- the step that is made now fails the assertion
module _ (t : TypedProgram) (n : ℕ) (choices : List ℤ) (made : ℕ) (here : Config) (left : List ℤ) (id : AssertId)
    (in_time : made < n) (comes : HasMade t choices made here left) (fails : StepEnds t here left (Failed id.number) [] × (id.line ≡ line_at t here)) where
  fails_here : FailsAt t n choices id.number
  fails_here = record { made = made; in_time = in_time; here = here; left = left; comes = comes; fails = fails.0 }

  pub found_here : IsReplayed t n choices id
  unfolding fails_here
  found_here = record { replays = fails_at_replays t n choices id.number fails_here; line = fails.1 }

  pub found_is : (i : ℕ) → Replays t n choices i → id.number ≡ i
  found_is i other = one_assertion_replays t n choices id.number i found_here.replays other

  pub found_does_not_stop : {R : Type 0} (k : ℕ) (cause : ReplayCause) → StopsAt t n choices k cause → R
  found_does_not_stop k cause stops = absurd (replays_and_stops t n choices id.number k cause found_here.replays stops)

-- the replay stops at the step that is made now
stops_here : (t : TypedProgram) (n : ℕ) (choices : List ℤ) (made : ℕ) (here : Config) (left : List ℤ) (cause : ReplayCause) → made < n → HasMade t choices made here left → Stops t here left cause → StopsAt t n choices (made + 1) cause
stops_here t n choices made here left cause in_time comes stops =
    inl (record { made = made; number = refl; in_time = in_time; here = here; left = left; comes = comes; stops = stops })

halts_stops : (t : TypedProgram) (c : Config) (left : List ℤ) (cause : ReplayCause) → Halts t c left cause → Stops t c left cause
halts_stops t c left Blocked h = h
halts_stops t c left Ended h = h
halts_stops t c left Short h = h
halts_stops t c left Number h = h
halts_stops t c left BadChoice h = inl h
halts_stops t c left Product h = h

pub halts_here : (t : TypedProgram) (n : ℕ) (choices : List ℤ) (made : ℕ) (here : Config) (left : List ℤ) (cause : ReplayCause) → made < n → HasMade t choices made here left → Halts t here left cause → StopsAt t n choices (made + 1) cause
halts_here t n choices made here left cause in_time comes halts = stops_here t n choices made here left cause in_time comes (halts_stops t here left cause halts)

-- where an assertion fails while choices are left
pub early_here : (t : TypedProgram) (n : ℕ) (choices : List ℤ) (made : ℕ) (here : Config) (left rest : List ℤ) → made < n → HasMade t choices made here left →
    (i : ℕ) × (rest ≢ []) × StepEnds t here left (Failed i) rest → StopsAt t n choices (made + 1) BadChoice
early_here t n choices made here left rest in_time comes h =
    stops_here t n choices made here left BadChoice in_time comes (inr (record { assertion = h.0; rest = rest; some = h.1; fails = h.2 }))

-- all steps are made
pub runs_out : (t : TypedProgram) (n : ℕ) (choices : List ℤ) (made : ℕ) (here : Config) (left : List ℤ) → made ≡ n → HasMade t choices made here left → StopsAt t n choices n Short
runs_out t n choices made here left all comes =
    inr (refl, refl, record { here = here; left = left; comes = subst (λ m. HasMade t choices m here left) all comes })

-- where it stops, it does not replay, and there is no other stop
pub stop_does_not_replay : {R : Type 0} (t : TypedProgram) (n : ℕ) (choices : List ℤ) (k : ℕ) (cause : ReplayCause) → StopsAt t n choices k cause → (i : ℕ) → Replays t n choices i → R
stop_does_not_replay t n choices k cause stops i replays = absurd (replays_and_stops t n choices i k cause replays stops)

pub stop_is : (t : TypedProgram) (n : ℕ) (choices : List ℤ) (k : ℕ) (cause : ReplayCause) → StopsAt t n choices k cause → (l : ℕ) (other : ReplayCause) → StopsAt t n choices l other → (◌≡◌ {A = Result AssertId ReplayFault} (Err (At k cause)) (Err (At l other))) ⊎ (◌≡◌ {A = Result AssertId ReplayFault} (Err (At k cause)) (Err Memory))
stop_is t n choices k cause stops l other more =
    let same = one_cause t n choices k l cause other stops more in
    inl (λ i. Err (At (same.0 i) (same.1 i)))

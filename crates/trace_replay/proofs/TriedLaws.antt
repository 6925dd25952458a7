-- Tried ends in one way.
use Rattle.std.proofs.Common.{◌≡◌, ◌≢◌, ℕ, ◌+◌, ◌<◌, ℤ, true, inl, inr, List, [], ◌∷◌, ◌++◌, length, Option, refl, sym, ap, ◌∙◌, subst, arith, append_assoc, append-nil}
use Rattle.std.specs.Option.{option_to_list}
use Rattle.std.proofs.lemmas.Bool.{cases_order}
use Rattle.std.proofs.lemmas.List.{append_cancel_right}
use Rattle.typed_tree.specs.TypedTree.{TypedProgram}
use Rattle.boogie_run.specs.Configurations.{Config}
use Rattle.boogie_run.specs.Needs.{need, is_taken}
use Rattle.boogie_run.specs.Steps.{Outcome, Went, Failed, Refused, step}
use Rattle.boogie_run.specs.Steps as outcomes
use Rattle.trace_replay.specs.declared.causes.ReplayCause.{ReplayCause}
use Rattle.trace_replay.specs.declared.causes.ReplayCause.TheVariants.{Blocked, Ended, Short, Number, BadChoice}
use Rattle.trace_replay.specs.Replays.{choices_among, Replays}
use Rattle.trace_replay.specs.ReplayCauses.{HasMade, StepEnds, ReadsPast, Stops, RunsOut}
use Rattle.trace_replay.specs.Tried.{TriedFails, TriedPasses, EndsOtherwise, blocks, returns, needs, refuses, EndsWithin, TriedStops, TriedEnd, IsTriedEnd}
use Rattle.trace_replay.specs.Tried as tried
use Rattle.trace_replay.specs.Guesses.{FailsWith}
use Rattle.trace_replay.proofs.ReplayRuns.{same_choice, step_takes, GoesBy, made_by}
use Rattle.trace_replay.proofs.ReplayTurns.{Turn, Replayed, StopsBy, IsTurn, IsEnd, nothing_left, not_bad, stops_turn, fails_turn, no_further}
use Rattle.trace_replay.proofs.ReplayLaws.{fails_at_replays, cause_ends, replay_ends}

-- the choices that are used, alone, come to the step that fails
module _ (t : TypedProgram) (n : ℕ) (choices : List ℤ) (steps : ℕ) (used : List ℤ) (i : ℕ) (s : TriedFails t n choices steps used i) where
  taken : List (Option ℤ)
  taken = s.comes.taken

  next : List ℤ
  next = option_to_list s.fails.choice

  front_used : choices_among taken ++ next ≡ used
  unfolding taken next
  front_used =
      append_cancel_right (choices_among taken ++ next) used s.rest
      (append_assoc (choices_among taken) next s.rest ∙ ap (λ (zs : List ℤ). choices_among taken ++ zs) (sym s.fails.first) ∙ s.comes.used ∙ s.used_is)

  front_made : HasMade t used s.made s.here next
  unfolding taken next
  front_made = record { taken = taken; many = s.comes.many; used = front_used; leads = s.comes.leads; fit = s.comes.fit }

  front_fails : StepEnds t s.here next (Failed i) []
  unfolding next
  front_fails = record { choice = s.fails.choice; first = sym (append-nil next); fit = s.fails.fit; ends = s.fails.ends }

  -- they make a run of their own fail with the same step
  pub front_fails_alone : FailsWith t steps used i
  front_fails_alone =
      record {
        made = s.made;
        number = s.number;
        in_time = omega (arith, s.number);
        here = s.here;
        left = next;
        rest = [];
        comes = front_made;
        fails = front_fails;
        used_is = sym (append-nil used);
      }

  -- they replay
  pub tried_fails_replays : Replays t steps used i
  tried_fails_replays =
      fails_at_replays t steps used i
      (record { made = s.made; in_time = omega (arith, s.number); here = s.here; left = next; comes = front_made; fails = front_fails })

-- ---- at one configuration

-- how the next step of Tried ends it, where it does
pub data Way : Type 0 where
  Fails : ℕ → List ℤ → Way
  Passes : Way
  Otherwise : Way

abbrev pub IsWay : TypedProgram → Config → List ℤ → Way → Type 0
IsWay t c left (Fails i rest) = StepEnds t c left (Failed i) rest
IsWay t c left Passes = ReadsPast t c left
IsWay t c left Otherwise = EndsOtherwise t c left

refused_no_failed : (i : ℕ) → Refused ≢ Failed i
refused_no_failed i e = let no : ⊥ = cc in no

fails_takes : (t : TypedProgram) (c : Config) (left rest : List ℤ) (i : ℕ) → (h : StepEnds t c left (Failed i) rest) → is_taken (need t c) h.choice ≡ true
fails_takes t c left rest i h = step_takes t c h.choice (Failed i) h.ends (refused_no_failed i)

fails_once : (t : TypedProgram) (c : Config) (left r s : List ℤ) (i j : ℕ) → StepEnds t c left (Failed i) r → StepEnds t c left (Failed j) s → (i ≡ j) × (r ≡ s)
fails_once t c left r s i j p q =
    let same = same_choice (need t c) p.choice q.choice r s (fails_takes t c left r i p) (fails_takes t c left s j q) (sym p.first ∙ q.first) in
    let both : Failed i ≡ Failed j = sym p.ends ∙ ap (step t c) same.0 ∙ q.ends in
    let number : i ≡ j = cc in
    (number, same.1)

fails_no_past : (t : TypedProgram) (c : Config) (left r : List ℤ) (i : ℕ) → StepEnds t c left (Failed i) r → ReadsPast t c left → ⊥
fails_no_past t c left r i p q = q.past p.fit

-- another end of the step
fails_no_other : (t : TypedProgram) (c : Config) (left r s : List ℤ) (i : ℕ) (o : Outcome) → StepEnds t c left (Failed i) r → StepEnds t c left o s → (Refused ≢ o) → (Failed i ≢ o) → ⊥
fails_no_other t c left r s i o p q allowed other =
    let same = same_choice (need t c) p.choice q.choice r s (fails_takes t c left r i p) (step_takes t c q.choice o q.ends allowed) (sym p.first ∙ q.first) in
    other (sym p.ends ∙ ap (step t c) same.0 ∙ q.ends)

fails_no_otherwise : (t : TypedProgram) (c : Config) (left r : List ℤ) (i : ℕ) → StepEnds t c left (Failed i) r → EndsOtherwise t c left → ⊥
fails_no_otherwise t c left r i p (blocks h) = fails_no_other t c left r h.rest i outcomes.Blocked p h.blocks (λ e. (let no : ⊥ = cc in no)) (λ e. (let no : ⊥ = cc in no))
fails_no_otherwise t c left r i p (returns h) = fails_no_other t c left r h.rest i outcomes.Ended p h.ends (λ e. (let no : ⊥ = cc in no)) (λ e. (let no : ⊥ = cc in no))
fails_no_otherwise t c left r i p (needs h e) = nothing_left t c p.choice r h (fails_takes t c left r i p) (sym p.first ∙ e)
fails_no_otherwise t c left r i p (refuses h) = not_bad t c p.choice left r h (fails_takes t c left r i p) p.first

past_no_otherwise : (t : TypedProgram) (c : Config) (left : List ℤ) → ReadsPast t c left → EndsOtherwise t c left → ⊥
past_no_otherwise t c left p (blocks h) = p.past h.blocks.fit
past_no_otherwise t c left p (returns h) = p.past h.ends.fit
past_no_otherwise t c left p (needs h e) = nothing_left t c p.choice p.rest h p.taken (sym p.first ∙ e)
past_no_otherwise t c left p (refuses h) = not_bad t c p.choice left p.rest h p.taken p.first

one_way : (t : TypedProgram) (c : Config) (left : List ℤ) (a b : Way) → IsWay t c left a → IsWay t c left b → a ≡ b
one_way t c left (Fails i r) (Fails j s) p q = let same = fails_once t c left r s i j p q in λ k. Fails (same.0 k) (same.1 k)
one_way t c left (Fails i r) Passes p q = absurd (fails_no_past t c left r i p q)
one_way t c left (Fails i r) Otherwise p q = absurd (fails_no_otherwise t c left r i p q)
one_way t c left Passes (Fails i r) p q = absurd (fails_no_past t c left r i q p)
one_way t c left Passes Passes p q = refl
one_way t c left Passes Otherwise p q = absurd (past_no_otherwise t c left p q)
one_way t c left Otherwise (Fails i r) p q = absurd (fails_no_otherwise t c left r i q p)
one_way t c left Otherwise Passes p q = absurd (past_no_otherwise t c left q p)
one_way t c left Otherwise Otherwise p q = refl

-- ---- at a step

pub otherwise_stops : (t : TypedProgram) (c : Config) (left : List ℤ) → EndsOtherwise t c left → (cause : ReplayCause) × (cause ≢ Number) × Stops t c left cause
otherwise_stops t c left (blocks h) = (Blocked, λ e. (let no : ⊥ = cc in no), h)
otherwise_stops t c left (returns h) = (Ended, λ e. (let no : ⊥ = cc in no), h)
otherwise_stops t c left (needs h e) = (Short, λ e. (let no : ⊥ = cc in no), (h, e))
otherwise_stops t c left (refuses h) = (BadChoice, λ e. (let no : ⊥ = cc in no), inl h)

fails_way_turn : (t : TypedProgram) (c : Config) (left rest : List ℤ) (i : ℕ) → StepEnds t c left (Failed i) rest → (turn : Turn) × IsTurn t c left turn × IsEnd turn
fails_way_turn t c left [] i h = (Replayed i, fails_turn t c left i h, replay_ends i)
fails_way_turn t c left (z ∷ rest) i h =
    (StopsBy BadChoice, stops_turn t c left BadChoice (inr (record { assertion = i; rest = z ∷ rest; some = λ e. (let no : ⊥ = cc in no); fails = h })), cause_ends BadChoice)

-- a replay ends there, too
way_turn : (t : TypedProgram) (c : Config) (left : List ℤ) (a : Way) → IsWay t c left a → (turn : Turn) × IsTurn t c left turn × IsEnd turn
way_turn t c left (Fails i rest) h = fails_way_turn t c left rest i h
way_turn t c left Passes h = (StopsBy Number, stops_turn t c left Number h, cause_ends Number)
way_turn t c left Otherwise h = let o = otherwise_stops t c left h in (StopsBy o.0, stops_turn t c left o.0 o.2, cause_ends o.0)

-- Tried ends at a step in this way.
record EndsAt (t : TypedProgram) (n : ℕ) (choices : List ℤ) (made : ℕ) (a : Way) : Type 0 where
  in_time : made < n
  here : Config
  left : List ℤ
  comes : HasMade t choices made here left
  ends : IsWay t here left a

no_further_way : (t : TypedProgram) (choices : List ℤ) (m n k : ℕ) (d : Config) (rest : List ℤ) (a : Way) → EndsAt t k choices m a → HasMade t choices n d rest → m < n → ⊥
no_further_way t choices m n k d rest a p q less =
    let turn = way_turn t p.here p.left a p.ends in
    no_further t choices m n p.here d p.left rest turn.0 p.comes q less turn.1 turn.2

at_here : (t : TypedProgram) (c d : Config) (left rest : List ℤ) (more : List (Option ℤ)) → GoesBy t c left d rest more → length more ≡ 0 → (c ≡ d) × (left ≡ rest)
at_here t c d left rest [] h none =
    let here : Went c ≡ Went d = h.leads in
    let same : c ≡ d = cc in
    (same, h.used)
at_here t c d left rest (x ∷ more) h none = absurd (omega arith)

-- after as many steps it is at one configuration
made_once : (t : TypedProgram) (choices : List ℤ) (m n : ℕ) (c d : Config) (left rest : List ℤ) → HasMade t choices m c left → HasMade t choices n d rest → m ≡ n → (c ≡ d) × (left ≡ rest)
made_once t choices m n c d left rest p q same =
    let by = made_by t choices m n c d left rest p q (omega arith) in
    at_here t c d left rest by.0 by.2 (omega (arith, by.1, same))

one_at : (t : TypedProgram) (n : ℕ) (choices : List ℤ) (m k : ℕ) (a b : Way) → EndsAt t n choices m a → EndsAt t n choices k b → m ≡ k → a ≡ b
one_at t n choices m k a b p q same =
    let here = made_once t choices m k p.here q.here p.left q.left p.comes q.comes same in
    one_way t q.here q.left a b (subst (λ (ls : List ℤ). IsWay t q.here ls a) here.1 (subst (λ (c : Config). IsWay t c p.left a) here.0 p.ends)) q.ends

one_end_at : (t : TypedProgram) (n : ℕ) (choices : List ℤ) (m k : ℕ) (a b : Way) → EndsAt t n choices m a → EndsAt t n choices k b → (m ≡ k) × (a ≡ b)
one_end_at t n choices m k a b p q = elim (cases_order m k) [
  | inl same ↦ (same, one_at t n choices m k a b p q same)
  | inr w ↦ elim w [
    | inl less ↦ absurd (no_further_way t choices m k n q.here q.left a p q.comes less)
    | inr more ↦ absurd (no_further_way t choices k m n p.here p.left b q p.comes more)
  ]
]

out_no_end : (t : TypedProgram) (n : ℕ) (choices : List ℤ) (m : ℕ) (a : Way) → EndsAt t n choices m a → RunsOut t n choices → ⊥
out_no_end t n choices m a p o = no_further_way t choices m n n o.here o.left a p o.comes p.in_time

-- and where it ends at a step, it ends so
pub way_ends : (t : TypedProgram) (n : ℕ) (choices : List ℤ) (made : ℕ) (c : Config) (left : List ℤ) (a : Way) → made < n → HasMade t choices made c left → IsWay t c left a → (e : TriedEnd) × IsTriedEnd t n choices e
way_ends t n choices made c left (Fails i rest) in_time comes h = (
  tried.Fails (made + 1) (choices_among comes.taken ++ option_to_list h.choice) i,
  record {
    made = made;
    number = refl;
    in_time = in_time;
    here = c;
    left = left;
    rest = rest;
    comes = comes;
    fails = h;
    used_is = sym comes.used ∙ ap (λ (zs : List ℤ). choices_among comes.taken ++ zs) h.first ∙ sym (append_assoc (choices_among comes.taken) (option_to_list h.choice) rest);
  },
)
way_ends t n choices made c left Passes in_time comes h =
    (tried.Passes (made + 1), record { made = made; number = refl; in_time = in_time; here = c; left = left; comes = comes; stops = h })
way_ends t n choices made c left Otherwise in_time comes h =
    (tried.Stops (made + 1), inl (record { made = made; number = refl; in_time = in_time; here = c; left = left; comes = comes; ends = h }))

-- ---- one end

fails_at : (t : TypedProgram) (n : ℕ) (choices : List ℤ) (steps : ℕ) (used : List ℤ) (i : ℕ) → (h : TriedFails t n choices steps used i) → EndsAt t n choices h.made (Fails i h.rest)
fails_at t n choices steps used i h = record { in_time = h.in_time; here = h.here; left = h.left; comes = h.comes; ends = h.fails }

passes_at : (t : TypedProgram) (n : ℕ) (choices : List ℤ) (step : ℕ) → (h : TriedPasses t n choices step) → EndsAt t n choices h.made Passes
passes_at t n choices step h = record { in_time = h.in_time; here = h.here; left = h.left; comes = h.comes; ends = h.stops }

otherwise_at : (t : TypedProgram) (n : ℕ) (choices : List ℤ) (step : ℕ) → (h : EndsWithin t n choices step) → EndsAt t n choices h.made Otherwise
otherwise_at t n choices step h = record { in_time = h.in_time; here = h.here; left = h.left; comes = h.comes; ends = h.ends }

fails_no_passes : (i : ℕ) (rest : List ℤ) → Fails i rest ≢ Passes
fails_no_passes i rest e = let no : ⊥ = cc in no

fails_not_otherwise : (i : ℕ) (rest : List ℤ) → Fails i rest ≢ Otherwise
fails_not_otherwise i rest e = let no : ⊥ = cc in no

passes_not_otherwise : Passes ≢ Otherwise
passes_not_otherwise e = let no : ⊥ = cc in no

same_fails : (i j : ℕ) (r s : List ℤ) → Fails i r ≡ Fails j s → (i ≡ j) × (r ≡ s)
same_fails i j r s e = let one : i ≡ j = cc in let two : r ≡ s = cc in (one, two)

number_of : (m n k l : ℕ) → k ≡ m + 1 → l ≡ n + 1 → m ≡ n → k ≡ l
number_of m n k l e f same = e ∙ ap (λ (x : ℕ). x + 1) same ∙ sym f

fails_fails : (t : TypedProgram) (n : ℕ) (choices : List ℤ) (k l : ℕ) (us vs : List ℤ) (i j : ℕ) → TriedFails t n choices k us i → TriedFails t n choices l vs j → tried.Fails k us i ≡ tried.Fails l vs j
fails_fails t n choices k l us vs i j p q =
    let one = one_end_at t n choices p.made q.made (Fails i p.rest) (Fails j q.rest) (fails_at t n choices k us i p) (fails_at t n choices l vs j q) in
    let same = same_fails i j p.rest q.rest one.1 in
    let steps : k ≡ l = number_of p.made q.made k l p.number q.number one.0 in
    let used : us ≡ vs = append_cancel_right us vs q.rest (ap (λ (zs : List ℤ). us ++ zs) (sym same.1) ∙ sym p.used_is ∙ q.used_is) in
    λ x. tried.Fails (steps x) (used x) (same.0 x)

fails_passes : (t : TypedProgram) (n : ℕ) (choices : List ℤ) (k l : ℕ) (us : List ℤ) (i : ℕ) → TriedFails t n choices k us i → TriedPasses t n choices l → ⊥
fails_passes t n choices k l us i p q =
    fails_no_passes i p.rest (one_end_at t n choices p.made q.made (Fails i p.rest) Passes (fails_at t n choices k us i p) (passes_at t n choices l q)).1

fails_stops : (t : TypedProgram) (n : ℕ) (choices : List ℤ) (k l : ℕ) (us : List ℤ) (i : ℕ) → TriedFails t n choices k us i → TriedStops t n choices l → ⊥
fails_stops t n choices k l us i p (inl q) =
    fails_not_otherwise i p.rest (one_end_at t n choices p.made q.made (Fails i p.rest) Otherwise (fails_at t n choices k us i p) (otherwise_at t n choices l q)).1
fails_stops t n choices k l us i p (inr q) = out_no_end t n choices p.made (Fails i p.rest) (fails_at t n choices k us i p) q.1

passes_stops : (t : TypedProgram) (n : ℕ) (choices : List ℤ) (k l : ℕ) → TriedPasses t n choices k → TriedStops t n choices l → ⊥
passes_stops t n choices k l p (inl q) = passes_not_otherwise (one_end_at t n choices p.made q.made Passes Otherwise (passes_at t n choices k p) (otherwise_at t n choices l q)).1
passes_stops t n choices k l p (inr q) = out_no_end t n choices p.made Passes (passes_at t n choices k p) q.1

passes_step : (t : TypedProgram) (n : ℕ) (choices : List ℤ) (k l : ℕ) → TriedPasses t n choices k → TriedPasses t n choices l → k ≡ l
passes_step t n choices k l p q =
    number_of p.made q.made k l p.number q.number (one_end_at t n choices p.made q.made Passes Passes (passes_at t n choices k p) (passes_at t n choices l q)).0

stops_step : (t : TypedProgram) (n : ℕ) (choices : List ℤ) (k l : ℕ) → TriedStops t n choices k → TriedStops t n choices l → k ≡ l
stops_step t n choices k l (inl p) (inl q) =
    number_of p.made q.made k l p.number q.number (one_end_at t n choices p.made q.made Otherwise Otherwise (otherwise_at t n choices k p) (otherwise_at t n choices l q)).0
stops_step t n choices k l (inl p) (inr q) = absurd (out_no_end t n choices p.made Otherwise (otherwise_at t n choices k p) q.1)
stops_step t n choices k l (inr p) (inl q) = absurd (out_no_end t n choices q.made Otherwise (otherwise_at t n choices l q) p.1)
stops_step t n choices k l (inr p) (inr q) = p.0 ∙ sym q.0

-- Tried has one end.
pub one_tried_end : (t : TypedProgram) (n : ℕ) (choices : List ℤ) (e f : TriedEnd) → IsTriedEnd t n choices e → IsTriedEnd t n choices f → e ≡ f
one_tried_end t n choices (tried.Fails k us i) (tried.Fails l vs j) p q = fails_fails t n choices k l us vs i j p q
one_tried_end t n choices (tried.Fails k us i) (tried.Passes l) p q = absurd (fails_passes t n choices k l us i p q)
one_tried_end t n choices (tried.Fails k us i) (tried.Stops l) p q = absurd (fails_stops t n choices k l us i p q)
one_tried_end t n choices (tried.Passes k) (tried.Fails l vs j) p q = absurd (fails_passes t n choices l k vs j q p)
one_tried_end t n choices (tried.Passes k) (tried.Passes l) p q = ap tried.Passes (passes_step t n choices k l p q)
one_tried_end t n choices (tried.Passes k) (tried.Stops l) p q = absurd (passes_stops t n choices k l p q)
one_tried_end t n choices (tried.Stops k) (tried.Fails l vs j) p q = absurd (fails_stops t n choices l k vs j q p)
one_tried_end t n choices (tried.Stops k) (tried.Passes l) p q = absurd (passes_stops t n choices l k q p)
one_tried_end t n choices (tried.Stops k) (tried.Stops l) p q = ap tried.Stops (stops_step t n choices k l p q)

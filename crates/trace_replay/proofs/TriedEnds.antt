-- Tried ends.
use Rattle.std.proofs.Common.{◌≡◌, ◌≢◌, ℕ, zero, suc, ◌+◌, ℤ, pos, negsuc, Bool, true, false, nat_lt, cond, inl, inr, List, [], ◌∷◌, ◌++◌, length, Option, None, Some, slice_get, refl, sym, ap, ◌∙◌, subst, arith}
use Rattle.std.specs.Option.{option_to_list}
use Rattle.std.proofs.lemmas.Bool.{false≢true, ltb-true}
use Rattle.std.proofs.lemmas.Option.{slice_get_cases}
use Rattle.math_facts.specs.Optional.{or_zero}
use Rattle.typed_tree.specs.TypedTree.{TypedProgram}
use Rattle.boogie_run.specs.BoogiePoints.Points.{Point}
use Rattle.boogie_run.specs.BoogiePoints.Actions.{Action, Check, Suppose, Demand, Write, Guess, Test, Pick, Jump, Enter, Keep, Grant, Finish, Leave, action_at}
use Rattle.boogie_run.specs.Configurations.{Frame, Config}
use Rattle.boogie_run.specs.Needs.{Need, need_of_action, need, is_taken, locals_at}
use Rattle.boogie_run.specs.Steps.{Outcome, Went, Failed, Refused, start, step, next, act, went_if, left, with_global, with_local}
use Rattle.boogie_run.specs.Steps as outcomes
use Rattle.boogie_run.specs.Fitting.{NextFits}
use Rattle.trace_replay.specs.NextChoices.{next_choice}
use Rattle.trace_replay.specs.ReplayCauses.{HasMade, StepEnds}
use Rattle.trace_replay.specs.Tried.{blocks, returns, needs, refuses, TriedEnd, IsTriedEnd}
use Rattle.trace_replay.specs.Tried as tried
use Rattle.trace_replay.proofs.FitTests.{next_fits_or_not}
use Rattle.trace_replay.proofs.ReplaySteps.{next_first, none_left, some_needed, none_made, one_more_made}
use Rattle.trace_replay.proofs.TriedLaws.{Way, Fails, Passes, Otherwise, IsWay, way_ends}

-- ---- a step whose choice is taken is not refused

no_went : (c : Config) → Refused ≢ Went c
no_went c e = let no : ⊥ = cc in no

no_failed : (i : ℕ) → Refused ≢ Failed i
no_failed i e = let no : ⊥ = cc in no

no_blocked : Refused ≢ outcomes.Blocked
no_blocked e = let no : ⊥ = cc in no

went_or : (b : Bool) (c : Config) (o : Outcome) → Refused ≢ o → Refused ≢ cond b (Went c) o
went_or true c o h = no_went c
went_or false c o h = h

way_taken : (ways : List Point) (z : ℕ) (c : Config) → nat_lt z (length ways) ≡ true → Refused ≢ went_if (slice_get ways z) c
way_taken ways z c h e = elim (slice_get_cases ways z).1 [
  | inl x ↦
      let went : Refused ≡ went_if (Some x.0) c = e ∙ ap (λ (w : Option Point). went_if w c) x.2 in
      let no : ⊥ = cc in no
  | inr x ↦ omega (arith, x.0, ltb-true z (length ways) h)
]

left_went : (t : TypedProgram) (c : Config) (fs : List Frame) → Refused ≢ left t c fs
left_went t c [] e = let no : ⊥ = cc in no
left_went t c (f ∷ fs) e = let no : ⊥ = cc in no

act_went : (t : TypedProgram) (n : ℕ) (c : Config) (x : Option ℤ) (a : Action) → is_taken (need_of_action t n a) x ≡ true → Refused ≢ act t c (or_zero x) a
act_went t n c x (Check id at e p) h = went_or _ _ _ (no_failed id)
act_went t n c x (Suppose e p) h = went_or _ _ _ no_blocked
act_went t n c x (Demand id at e args p) h = went_or _ _ _ (no_failed id)
act_went t n c x (Write cs es p) h = no_went _
act_went t n c x (Guess y p) h = no_went _
act_went t n c x (Test e p q) h = no_went _
act_went t n c None (Pick ways) h = absurd (false≢true h)
act_went t n c (Some (pos z)) (Pick ways) h = way_taken ways z c h
act_went t n c (Some (negsuc z)) (Pick ways) h = absurd (false≢true h)
act_went t n c x (Jump p) h = no_went _
act_went t n c x (Enter f args) h = no_went _
act_went t n c x (Keep f args y p) h = no_went _
act_went t n c x (Grant f args e p) h = went_or _ _ _ no_blocked
act_went t n c x (Finish f args targets p) h = no_went _
act_went t n c x Leave h = left_went t c c.below

chosen_went : (b : Bool) (n m : Need) (x : Option ℤ) (o p : Outcome) → is_taken (cond b n m) x ≡ true → Refused ≢ o → (is_taken m x ≡ true → Refused ≢ p) → Refused ≢ cond b o p
chosen_went true n m x o p h k l = k
chosen_went false n m x o p h k l = l h

next_went : (t : TypedProgram) (c : Config) (x : Option ℤ) → is_taken (need t c) x ≡ true → Refused ≢ next t c (or_zero x)
next_went t c x h =
    chosen_went (nat_lt (length c.globals) (length t.globals)) _ _ x (Went (with_global c (or_zero x))) _ h (no_went (with_global c (or_zero x)))
    (λ k. chosen_went (nat_lt (length c.top.locals) (length (locals_at t c.top.proc))) _ _ x (Went (with_local c (or_zero x))) _ k (no_went (with_local c (or_zero x)))
    (λ l. act_went t c.top.proc c x (action_at t c.top.proc c.top.point) l))

if_taken : (b : Bool) (o : Outcome) → b ≡ true → Refused ≢ o → Refused ≢ cond b o Refused
if_taken true o h k = k
if_taken false o h k = absurd (false≢true h)

taken_went : (t : TypedProgram) (c : Config) (x : Option ℤ) → is_taken (need t c) x ≡ true → Refused ≢ step t c x
taken_went t c x h = if_taken (is_taken (need t c) x) (next t c (or_zero x)) h (next_went t c x h)

-- ---- the next step

-- It goes on, or ends Tried.
data Next (t : TypedProgram) (c : Config) (left : List ℤ) : Type 0 where
  goes : (d : Config) (rest : List ℤ) → StepEnds t c left (Went d) rest → Next t c left
  ends : (a : Way) → IsWay t c left a → Next t c left

made_next : (t : TypedProgram) (c : Config) (left : List ℤ) (x : Option ℤ) (rest : List ℤ) → left ≡ option_to_list x ++ rest → NextFits t c → Refused ≢ step t c x → (o : Outcome) → step t c x ≡ o → Next t c left
made_next t c left x rest first fit went (Went d) e = goes d rest (record { choice = x; first = first; fit = fit; ends = e })
made_next t c left x rest first fit went outcomes.Blocked e = ends Otherwise (blocks (record { rest = rest; blocks = record { choice = x; first = first; fit = fit; ends = e } }))
made_next t c left x rest first fit went (Failed i) e = ends (Fails i rest) (record { choice = x; first = first; fit = fit; ends = e })
made_next t c left x rest first fit went outcomes.Ended e = ends Otherwise (returns (record { rest = rest; ends = record { choice = x; first = first; fit = fit; ends = e } }))
made_next t c left x rest first fit went Refused e = absurd (went (sym e))

taken_next : (t : TypedProgram) (c : Config) (left : List ℤ) (x : Option ℤ) (rest : List ℤ) → left ≡ option_to_list x ++ rest → is_taken (need t c) x ≡ true → Next t c left
taken_next t c left x rest first taken = elim (next_fits_or_not t c) [
  | inl fit ↦ made_next t c left x rest first fit (taken_went t c x taken) (step t c x) refl
  | inr past ↦ ends Passes (record { choice = x; rest = rest; first = first; taken = taken; past = past })
]

untaken_next : (t : TypedProgram) (c : Config) (left : List ℤ) (x : Option ℤ) (rest : List ℤ) → left ≡ option_to_list x ++ rest → (next_choice (need t c) left).0 ≡ x → is_taken (need t c) x ≡ false → Next t c left
untaken_next t c left None rest first e h = ends Otherwise (needs h (none_left (need t c) left h e))
untaken_next t c left (Some z) rest first e h =
    ends Otherwise (refuses (record { choice = z; rest = rest; first = first; needed = some_needed (need t c) left z e; bad = h }))

by_test : (t : TypedProgram) (c : Config) (left : List ℤ) (b : Bool) → is_taken (need t c) (next_choice (need t c) left).0 ≡ b → Next t c left
by_test t c left true h = taken_next t c left (next_choice (need t c) left).0 (next_choice (need t c) left).1 (next_first (need t c) left) h
by_test t c left false h = untaken_next t c left (next_choice (need t c) left).0 (next_choice (need t c) left).1 (next_first (need t c) left) refl h

next_is : (t : TypedProgram) (c : Config) (left : List ℤ) → Next t c left
next_is t c left = by_test t c left (is_taken (need t c) (next_choice (need t c) left).0) refl

-- ---- all steps

-- from a configuration that it comes to, with this many steps to make
tried_from : (t : TypedProgram) (n : ℕ) (choices : List ℤ) (more made : ℕ) (c : Config) (left : List ℤ) → made + more ≡ n → HasMade t choices made c left → (e : TriedEnd) × IsTriedEnd t n choices e
tried_from t n choices zero made c left all comes =
    (tried.Stops n, inr (refl, record { here = c; left = left; comes = subst (λ (m : ℕ). HasMade t choices m c left) (omega (arith, all)) comes }))
tried_from t n choices (suc more) made c left all comes = elim (next_is t c left) [
  | goes d rest went ↦ tried_from t n choices more (made + 1) d rest (omega (arith, all)) (one_more_made t choices made c d left rest comes went)
  | ends a is ↦ way_ends t n choices made c left a (omega (arith, all)) comes is
]

pub tried_ends : (t : TypedProgram) (n : ℕ) (choices : List ℤ) → (e : TriedEnd) × IsTriedEnd t n choices e
tried_ends t n choices = tried_from t n choices n 0 (start t) choices (omega arith) (none_made t choices)

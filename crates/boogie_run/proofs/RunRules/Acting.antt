-- One step of the machine by its action.
use Rattle.std.proofs.Common.{◌≡◌, ℕ, suc, ◌+◌, ◌≤◌, ℤ, Bool, true, false, not, ◌⊎◌, inl, inr, List, [], ◌∷◌, length, Option, refl, sym, ◌∙◌, subst, if◌then◌else◌, arith}
use Rattle.math_facts.specs.Optional.{or_zero}
use Rattle.typed_tree.specs.TypedTree.{TypedStatement, TypedBlock, TypedProgram}
use Rattle.boogie_run.specs.BoogiePoints.Points.{Todo, Point, before, settled}
use Rattle.boogie_run.specs.BoogiePoints.Actions.{Action, action_at, free_conditions, block_action, statement_action, first_assertion, first_place}
use Rattle.boogie_run.specs.Configurations.{Config}
use Rattle.boogie_run.specs.Needs.{is_taken, need_of_action}
use Rattle.boogie_run.specs.Steps.{Outcome, Went, Blocked, Failed, Ended, Refused, act, step, moved_to}
use Rattle.boogie_run.specs.Runs.{run, then_goes_on}
use Rattle.boogie_run.specs.RunRules.Moments.{Moment}
use Rattle.boogie_run.specs.RunRules.Ties.Mirrors.{HasBody, IsFull, Mirrors, pendings, moment_of}
use Rattle.boogie_run.specs.RunRules.Ties.Scenes.{Scene, SceneHolds, config_at, todo_at, ReachesMirror, GoesOnWhere}
use Rattle.boogie_run.specs.RunRules.Ties.Stretches.{ReachesFailure}

-- ---- outcomes

-- a run fails at its first step, or goes on
fails_then : (o : Outcome) (rest : Config → Outcome) (n : ℕ) → then_goes_on o rest ≡ Failed n → (o ≡ Failed n) ⊎ ((d : Config) × (o ≡ Went d) × (rest d ≡ Failed n))
fails_then (Went d) rest n e = inr (d, refl, e)
fails_then Blocked rest n e = absurd (cc)
fails_then (Failed m) rest n e = inl e
fails_then Ended rest n e = absurd (cc)
fails_then Refused rest n e = absurd (cc)

-- a test that fails or goes on was broken or met
pub failed_test : (b : Bool) (d : Config) (id n : ℕ) → (if b then Went d else Failed id) ≡ Failed n → (b ≡ false) × (id ≡ n)
failed_test true d id n e = absurd (cc)
failed_test false d id n e = (refl, cc)

pub blocked_test : (b : Bool) (d : Config) (n : ℕ) → (if b then Went d else Blocked) ≡ Failed n → ⊥
blocked_test true d n e = cc
blocked_test false d n e = cc

pub went_test : (b : Bool) (d c : Config) (id : ℕ) → (if b then Went d else Failed id) ≡ Went c → (b ≡ true) × (d ≡ c)
went_test true d c id e = (refl, cc)
went_test false d c id e = absurd (cc)

pub went_supposing : (b : Bool) (d c : Config) → (if b then Went d else Blocked) ≡ Went c → (b ≡ true) × (d ≡ c)
went_supposing true d c e = (refl, cc)
went_supposing false d c e = absurd (cc)

pub not_true : (b : Bool) → not b ≡ true → b ≡ false
not_true true e = sym e
not_true false e = refl

pub not_false : (b : Bool) → not b ≡ false → b ≡ true
not_false true e = refl
not_false false e = sym e

taken_went : (b : Bool) (o : Outcome) (d : Config) → (if b then o else Refused) ≡ Went d → (b ≡ true) × (o ≡ Went d)
taken_went true o d e = (refl, e)
taken_went false o d e = absurd (cc)

taken_failed : (b : Bool) (o : Outcome) (n : ℕ) → (if b then o else Refused) ≡ Failed n → (b ≡ true) × (o ≡ Failed n)
taken_failed true o n e = (refl, e)
taken_failed false o n e = absurd (cc)

-- ---- steps

-- The machine takes what the action needs, and does what the action says.
pub record ActsBy (t : TypedProgram) (c : Config) (a : Action) : Type 0 where
  pub acts : (choice : Option ℤ) → step t c choice ≡ (if is_taken (need_of_action t c.top.proc a) choice then act t c (or_zero choice) a else Refused)

pub went_by : (t : TypedProgram) (c : Config) (a : Action) (choice : Option ℤ) (d : Config) → ActsBy t c a → step t c choice ≡ Went d →
    (is_taken (need_of_action t c.top.proc a) choice ≡ true) × (act t c (or_zero choice) a ≡ Went d)
went_by t c a choice d by e = taken_went (is_taken (need_of_action t c.top.proc a) choice) (act t c (or_zero choice) a) d (sym (by.acts choice) ∙ e)

pub failed_by : (t : TypedProgram) (c : Config) (a : Action) (choice : Option ℤ) (n : ℕ) → ActsBy t c a → step t c choice ≡ Failed n →
    (is_taken (need_of_action t c.top.proc a) choice ≡ true) × (act t c (or_zero choice) a ≡ Failed n)
failed_by t c a choice n by e = taken_failed (is_taken (need_of_action t c.top.proc a) choice) (act t c (or_zero choice) a) n (sym (by.acts choice) ∙ e)

pub steps_by : (t : TypedProgram) (c : Config) (a : Action) (choice : Option ℤ) (o : Outcome) → ActsBy t c a → is_taken (need_of_action t c.top.proc a) choice ≡ true →
    act t c (or_zero choice) a ≡ o → step t c choice ≡ o
steps_by t c a choice o by taken e = by.acts choice ∙ rw taken e

-- with all values chosen the action at the point is next
pub full_acts : (t : TypedProgram) (v : Config) (p : Point) → IsFull t v → ActsBy t (moved_to v p) (action_at t v.top.proc p)
full_acts t v p full = record { acts = λ choice. rw (full.all_globals, full.all_locals) }

-- ---- the statement that a scene stands at

body_acts : (t : TypedProgram) (n : ℕ) (h : HasBody t n) (todo : Todo) (under : List Todo) →
    action_at t n (before (todo ∷ under)) ≡
    block_action t.procs h.body (first_assertion t.procs n) (first_place t n + length (free_conditions h.procedure.specs)) todo.rest todo.of_loop todo.id todo.at under (before (todo ∷ under))
body_acts t n h todo under = rw (h.there, h.has_body)

-- what the machine does at the statement
abbrev pub scene_action : (t : TypedProgram) (sc : Scene) (s : TypedStatement) (b : TypedBlock) → SceneHolds t sc → Action
scene_action t sc s b holds =
    statement_action t.procs holds.full.body.body (first_assertion t.procs sc.values.top.proc)
    (first_place t sc.values.top.proc + length (free_conditions holds.full.body.procedure.specs)) s b sc.of_loop sc.id sc.place sc.under (before (todo_at sc s b ∷ sc.under))

pub scene_acts : (t : TypedProgram) (sc : Scene) (s : TypedStatement) (b : TypedBlock) → (holds : SceneHolds t sc) → ActsBy t (config_at sc s b) (scene_action t sc s b holds)
scene_acts t sc s b holds =
    subst (ActsBy t (config_at sc s b)) (body_acts t sc.values.top.proc holds.full.body (todo_at sc s b) sc.under)
    (full_acts t sc.values (before (todo_at sc s b ∷ sc.under)) holds.full)

-- ---- what a statement that takes one step does

-- a run that fails does so at its first step, or one step later it stands where a moment is mirrored
pub sound_by_step : (t : TypedProgram) (c : Config) (n bound : ℕ) (F : Type 0) (P : Moment → Type 0) (choices : List (Option ℤ)) → length choices ≤ suc bound →
    run t c choices ≡ Failed n → ((choice : Option ℤ) → step t c choice ≡ Failed n → F) →
    ((choice : Option ℤ) (d : Config) → step t c choice ≡ Went d → (m : Moment) × P m × Mirrors t d m) → F ⊎ GoesOnWhere t P n bound
sound_by_step t c n bound F P [] most e fails goes = absurd (cc)
sound_by_step t c n bound F P (choice ∷ rest) most e fails goes =
    elim (fails_then (step t c choice) (λ d. run t d rest) n e) [
      | inl h ↦ inl (fails choice h)
      | inr h ↦
          (let m : (m : Moment) × P m × Mirrors t h.0 m = goes choice h.0 h.1 in
          inr (record { moment = m.0; config = h.0; leads = m.1; mirrors = m.2; fails = record { choices = rest; most = omega arith; fails = h.2 } }))
    ]

pub leads_by_step : (t : TypedProgram) (c d : Config) (m : Moment) (choice : Option ℤ) → step t c choice ≡ Went d → Mirrors t d m → ReachesMirror t c m
leads_by_step t c d m choice e mirrors = (d, (choice ∷ [], rw e), mirrors)

pub fails_by_step : (t : TypedProgram) (c : Config) (n : ℕ) (choice : Option ℤ) → step t c choice ≡ Failed n → ReachesFailure t c n
fails_by_step t c n choice e = (choice ∷ [], rw e)

-- with the values of a scene the machine mirrors the moment with these blocks
pub scene_mirrors : (t : TypedProgram) (sc : Scene) (todo : List Todo) → SceneHolds t sc →
    Mirrors t (moved_to sc.values (settled todo)) (moment_of sc.values sc.targets sc.below (pendings todo))
scene_mirrors t sc todo holds =
    record { values = sc.values; todo = todo; targets = sc.targets; below = sc.below; config = refl; moment = refl; waits = holds.waits; full = holds.full }

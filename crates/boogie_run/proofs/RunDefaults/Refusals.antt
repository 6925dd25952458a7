-- A choice that is taken leads to a way that is there.
use Rattle.std.proofs.Common.{◌≡◌, ◌↔◌, ℕ, zero, suc, ◌<◌, ℤ, pos, negsuc, unsigned_abs, Bool, true, false, nat_lt, List, [], ◌∷◌, length, refl, sym, subst, Option, None, Some, slice_get, if◌then◌else◌, arith}
use Rattle.std.proofs.lemmas.Bool.{false≢true}
use Rattle.math_facts.specs.Optional.{or_zero}
use Rattle.typed_tree.specs.TypedTree.{TypedProgram}
use Rattle.boogie_run.specs.BoogiePoints.Points.{Point}
use Rattle.boogie_run.specs.BoogiePoints.Actions as actions
use Rattle.boogie_run.specs.BoogiePoints.Actions.{Action, action_at}
use Rattle.typed_tree.specs.Values.{value}
use Rattle.boogie_run.specs.Configurations.{Frame, Config, state_of}
use Rattle.boogie_run.specs.Needs.{Need, Below, need, need_of, need_of_action, is_taken, locals_at}
use Rattle.boogie_run.specs.Steps.{Outcome, Went, Blocked, Failed, Ended, Refused, moved_to, kept_on, passed_state, granted_state, left, is_true, went_if, act, with_global, with_local, next, step}
use Rattle.boogie_run.proofs.RunDefaults.Parts.{below_of}

-- the outcome is no refusal
abbrev Goes : Outcome → Type 0
Goes (Went c) = Unit {0}
Goes Blocked = Unit {0}
Goes (Failed i) = Unit {0}
Goes Ended = Unit {0}
Goes Refused = ⊥

if_goes : (b : Bool) (x y : Outcome) → Goes x → Goes y → Goes (if b then x else y)
if_goes true x y h k = h
if_goes false x y h k = k

way_goes : (c : Config) (ways : List Point) (n : ℕ) → n < length ways → Goes (went_if (slice_get ways n) c)
way_goes c [] n h = absurd (omega arith)
way_goes c (p ∷ ps) zero h = tt
way_goes c (p ∷ ps) (suc n) h = way_goes c ps n (omega arith)

left_goes : (t : TypedProgram) (c : Config) (fs : List Frame) → Goes (left t c fs)
left_goes t c [] = tt
left_goes t c (f ∷ fs) = tt

pick_goes : (c : Config) (ways : List Point) (choice : Option ℤ) → is_taken (Below (length ways)) choice ≡ true → Goes (went_if (slice_get ways (unsigned_abs (or_zero choice))) c)
pick_goes c ways None h = absurd (false≢true h)
pick_goes c ways (Some (pos k)) h = way_goes c ways k (below_of k (length ways) h)
pick_goes c ways (Some (negsuc k)) h = absurd (false≢true h)

act_goes : (t : TypedProgram) (c : Config) (n : ℕ) (choice : Option ℤ) (a : Action) → is_taken (need_of_action t n a) choice ≡ true → Goes (act t c (or_zero choice) a)
act_goes t c n choice (actions.Check id at e p) h = if_goes (is_true (value (state_of c) e)) (Went (moved_to c p)) (Failed id) tt tt
act_goes t c n choice (actions.Suppose e p) h = if_goes (is_true (value (state_of c) e)) (Went (moved_to c p)) Blocked tt tt
act_goes t c n choice (actions.Demand id at e args p) h = if_goes (is_true (value (passed_state (state_of c) args) e)) (Went (moved_to c p)) (Failed id) tt tt
act_goes t c n choice (actions.Write cs es p) h = tt
act_goes t c n choice (actions.Guess x p) h = tt
act_goes t c n choice (actions.Test e hit miss) h = tt
act_goes t c n choice (actions.Pick ways) h = pick_goes c ways choice h
act_goes t c n choice (actions.Jump p) h = tt
act_goes t c n choice (actions.Enter f args) h = tt
act_goes t c n choice (actions.Keep f args x p) h = tt
act_goes t c n choice (actions.Grant f args e p) h = if_goes (is_true (value (granted_state t c f args) e)) (Went (kept_on c p)) Blocked tt tt
act_goes t c n choice (actions.Finish f args targets p) h = tt
act_goes t c n choice actions.Leave h = left_goes t c c.below

-- by what is chosen
by_tests : (a b : Bool) (l m n : Need) (x y z : Outcome) (choice : Option ℤ) → Goes x → Goes y → (is_taken n choice ≡ true → Goes z) →
    is_taken (if a then l else (if b then m else n)) choice ≡ true → Goes (if a then x else (if b then y else z))
by_tests true b l m n x y z choice h k f w = h
by_tests false true l m n x y z choice h k f w = k
by_tests false false l m n x y z choice h k f w = f w

next_goes : (t : TypedProgram) (c : Config) (choice : Option ℤ) → is_taken (need t c) choice ≡ true → Goes (next t c (or_zero choice))
next_goes t c choice h =
    by_tests (nat_lt (length c.globals) (length t.globals)) (nat_lt (length c.top.locals) (length (locals_at t c.top.proc)))
    (need_of (slice_get t.globals (length c.globals))) (need_of (slice_get (locals_at t c.top.proc) (length c.top.locals)))
    (need_of_action t c.top.proc (action_at t c.top.proc c.top.point))
    (Went (with_global c (or_zero choice))) (Went (with_local c (or_zero choice))) (act t c (or_zero choice) (action_at t c.top.proc c.top.point)) choice tt tt
    (λ w. act_goes t c c.top.proc choice (action_at t c.top.proc c.top.point) w) h

refused_by : (b : Bool) (x : Outcome) → (b ≡ true → Goes x) → ((if b then x else Refused) ≡ Refused) ↔ (b ≡ false)
refused_by true x h = (λ e. absurd (subst Goes e (h refl)), λ e. absurd (false≢true (sym e)))
refused_by false x h = (λ e. refl, λ e. refl)

pub refused_is_not_taken : (t : TypedProgram) (c : Config) (choice : Option ℤ) → (step t c choice ≡ Refused) ↔ (is_taken (need t c) choice ≡ false)
refused_is_not_taken t c choice = refused_by (is_taken (need t c) choice) (next t c (or_zero choice)) (next_goes t c choice)

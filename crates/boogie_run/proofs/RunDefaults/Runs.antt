-- What a configuration keeps in a run of a valid program.
use Rattle.std.proofs.Common.{◌≡◌, ℕ, zero, suc, ◌+◌, ◌<◌, ◌≤◌, ℤ, unsigned_abs, Bool, true, false, nat_lt, IsTrue, List, [], ◌∷◌, ◌++◌, length, length-append, refl, ap, sym, ◌∙◌, subst, Option, Some, slice_get, if◌then◌else◌, arith}
use Rattle.std.specs.List.{AllByRecursion}
use Rattle.std.proofs.lemmas.List.{length-map}
use Rattle.math_facts.specs.Optional.{or_zero}
use Rattle.typed_tree.specs.Values.{value}
use Rattle.typed_tree.specs.TypedTree.{TypedExpression, TypedBlock, TypedProcedure, TypedProgram}
use Rattle.typed_tree.specs.TypingRules.ValidProgram.{is_valid}
use Rattle.boogie_run.specs.BoogiePoints.Points.{Point, settled, past_first}
use Rattle.boogie_run.specs.BoogiePoints.Actions as actions
use Rattle.boogie_run.specs.BoogiePoints.Actions.{Action, action_at, start_conditions}
use Rattle.boogie_run.specs.BoogiePoints.Starts.{point_of_procedure, point_of_call, unless_none, start_point_of, targets_at}
use Rattle.boogie_run.specs.Configurations.{Frame, Config, state_of}
use Rattle.boogie_run.specs.Needs.{need, is_taken, locals_at, locals_if_any}
use Rattle.boogie_run.specs.Steps.{Outcome, Went, Blocked, Failed, Ended, Refused, values, written, all_written, moved_to, kept_on, kept_to, passed_state, granted_state, finished, entered, left, results_left, is_true, went_if, act, with_global, with_local, next, step, start}
use Rattle.boogie_run.specs.Runs.{then_goes_on, run}
use Rattle.boogie_run.specs.RunDefaults.Standing.{AtCall}
use Rattle.boogie_run.proofs.RunDefaults.Parts.{below_of, most_of}
use Rattle.boogie_run.proofs.RunDefaults.Lengths.{SameShape, same_self, same_written, same_all_written, same_finished}
use Rattle.boogie_run.proofs.RunDefaults.Nesting.{past_first_nested}
use Rattle.boogie_run.proofs.RunDefaults.Valid.{enough, entry_found}
use Rattle.boogie_run.proofs.RunDefaults.Points.{Keeps, settled_keeps}
use Rattle.boogie_run.proofs.RunDefaults.Actions.{CallKnown, ActionKnown, action_known, call_keeps}

module _ (t : TypedProgram) (valid : IsTrue (is_valid t)) where
  -- the frame is one of a procedure with a body, and stands where something is to be done
  pub record FrameFits (f : Frame) : Type 0 where
    pub procedure : TypedProcedure
    pub body : TypedBlock
    pub found : slice_get t.procs f.proc ≡ Some procedure
    pub has : procedure.body ≡ Some body
    pub keeps : Keeps t f.proc procedure body f.point (length f.kept)

  -- a frame that waits has all its values
  pub record Waits (f : Frame) : Type 0 where
    pub frame : FrameFits f
    pub entry : length f.entry ≡ length t.globals
    pub locals : length f.locals ≡ length (locals_at t f.proc)

  -- each frame stands at the call of the one above it
  abbrev pub Calling : ℕ → List Frame → Type 0
  Calling n [] = Unit {0}
  Calling n (f ∷ fs) = AtCall n f.point.todo × Calling f.proc fs

  pub record Fits (c : Config) : Type 0 where
    pub top : FrameFits c.top
    pub globals : length c.globals ≤ length t.globals
    pub entry : length c.top.entry ≡ length c.globals
    pub locals : length c.top.locals ≤ length (locals_at t c.top.proc)
    -- while constants and globals are chosen there is one frame
    pub choosing : length c.globals < length t.globals → c.below ≡ []
    pub below : AllByRecursion Waits c.below
    pub calls : Calling c.top.proc c.below

  abbrev pub OutcomeFits : Outcome → Type 0
  OutcomeFits (Went d) = Fits d
  OutcomeFits Blocked = Unit {0}
  OutcomeFits (Failed i) = Unit {0}
  OutcomeFits Ended = Unit {0}
  OutcomeFits Refused = Unit {0}

  if_fits : (b : Bool) (x y : Outcome) → OutcomeFits x → OutcomeFits y → OutcomeFits (if b then x else y)
  if_fits true x y h k = h
  if_fits false x y h k = k

  -- ---- actions

  -- another point of the same procedure, behind writes
  moved_fits : (c d e : Config) → (r : Fits c) → SameShape c d → length t.globals ≤ length c.globals → e.globals ≡ d.globals → e.top.locals ≡ d.top.locals →
      e.top.entry ≡ d.top.entry → e.top.proc ≡ d.top.proc → e.below ≡ d.below → Keeps t c.top.proc r.top.procedure r.top.body e.top.point (length e.top.kept) → Fits e
  moved_fits c d e r s full g l n p b keeps =
      let proc : e.top.proc ≡ c.top.proc = p ∙ s.proc in
      let globals : length e.globals ≡ length c.globals = ap length g ∙ s.globals in
      let entry : length e.top.entry ≡ length c.top.entry = ap length (n ∙ s.entry) in
      let locals : length e.top.locals ≡ length c.top.locals = ap length l ∙ s.locals in
      let declared : length (locals_at t e.top.proc) ≡ length (locals_at t c.top.proc) = ap (λ (m : ℕ). length (locals_at t m)) proc in
      record {
        top =
            record {
              procedure = r.top.procedure;
              body = r.top.body;
              found = ap (slice_get t.procs) proc ∙ r.top.found;
              has = r.top.has;
              keeps = subst (λ (m : ℕ). Keeps t m r.top.procedure r.top.body e.top.point (length e.top.kept)) (sym proc) keeps;
            };
        globals = omega (arith, globals, r.globals);
        entry = entry ∙ r.entry ∙ sym globals;
        locals = omega (arith, locals, declared, r.locals);
        choosing = λ less. absurd (omega (arith, globals, full, less));
        below = subst (AllByRecursion Waits) (sym (b ∙ s.below)) r.below;
        calls = subst (λ (m : ℕ). Calling m e.below) (sym proc) (subst (Calling c.top.proc) (sym (b ∙ s.below)) r.calls);
      }

  -- to a point of the same procedure
  still_fits : (c : Config) (p : Point) → (r : Fits c) → length t.globals ≤ length c.globals → Keeps t c.top.proc r.top.procedure r.top.body p 0 → Fits (moved_to c p)
  still_fits c p r full keeps = moved_fits c c (moved_to c p) r (same_self c) full refl refl refl refl refl keeps

  ways_fit : (c : Config) (ways : List Point) (n : ℕ) → (r : Fits c) → length t.globals ≤ length c.globals →
      AllByRecursion (λ (p : Point). Keeps t c.top.proc r.top.procedure r.top.body p 0) ways → OutcomeFits (went_if (slice_get ways n) c)
  ways_fit c [] n r full h = tt
  ways_fit c (p ∷ ps) zero r full h = still_fits c p r full h.0
  ways_fit c (p ∷ ps) (suc n) r full h = ways_fit c ps n r full h.1

  either_keeps : (n : ℕ) (q : TypedProcedure) (body : TypedBlock) (b : Bool) (hit miss : Point) → Keeps t n q body hit 0 → Keeps t n q body miss 0 →
      Keeps t n q body (if b then hit else miss) 0
  either_keeps n q body true hit miss h m = h
  either_keeps n q body false hit miss h m = m

  entered_fits : (c : Config) (f : ℕ) (args : List TypedExpression) (l : ℕ) → Fits c → length t.globals ≤ length c.globals → length (locals_at t c.top.proc) ≤ length c.top.locals →
      (k : CallKnown t l f args) → (b : TypedBlock) → k.procedure.body ≡ Some b → AtCall f c.top.point.todo → Fits (entered t c f (values (state_of c) args))
  entered_fits c f args l r full whole k b has at =
      let declared : length (locals_at t f) ≡ length k.procedure.locals = ap (λ (o : Option TypedProcedure). length (locals_if_any o)) k.found in
      record {
        top = record { procedure = k.procedure; body = b; found = k.found; has = has; keeps = call_keeps t valid f k.procedure b k.found has };
        globals = r.globals;
        entry = refl;
        locals = omega (arith, declared, length-map args (value (state_of c)), k.count, enough t valid f k.procedure k.found);
        choosing = λ less. absurd (omega (arith, full, less));
        below = (record { frame = r.top; entry = omega (arith, r.entry, r.globals, full); locals = omega (arith, r.locals, whole) }, r.below);
        calls = (at, r.calls);
      }

  left_fits : (c : Config) (fs : List Frame) → Fits c → length t.globals ≤ length c.globals → AllByRecursion Waits fs → Calling c.top.proc fs → OutcomeFits (left t c fs)
  left_fits c [] r full h k = tt
  left_fits c (f ∷ fs) r full h k =
      let d : Config = record { globals = c.globals; top = f; below = fs } in
      let w : Waits f = h.0 in
      let fits : Fits d =
      record {
        top = w.frame;
        globals = r.globals;
        entry = omega (arith, w.entry, r.globals, full);
        locals = omega (arith, w.locals);
        choosing = λ less. absurd (omega (arith, full, less));
        below = h.1;
        calls = k.1;
      } in
      let e : Config = all_written d (targets_at f.point.todo) (results_left t c.top) in
      moved_fits d e (moved_to e (settled (past_first t.procs f.point.todo))) fits (same_all_written d (targets_at f.point.todo) (results_left t c.top)) full refl refl refl refl refl
      (settled_keeps t f.proc w.frame.procedure w.frame.body (past_first t.procs f.point.todo)
      (past_first_nested t w.frame.procedure w.frame.body f.point.todo w.frame.keeps.nested))

  one_more : (zs : List ℤ) (v : ℤ) → length (zs ++ v ∷ []) ≡ length zs + 1
  one_more zs v = omega (arith, length-append zs (v ∷ []))

  act_fits : (c : Config) (v : ℤ) (a : Action) → (r : Fits c) → length t.globals ≤ length c.globals → length (locals_at t c.top.proc) ≤ length c.top.locals →
      ActionKnown t c.top.proc r.top.procedure r.top.body c.top.point a → OutcomeFits (act t c v a)
  act_fits c v (actions.Check id at e p) r full whole h =
      if_fits (is_true (value (state_of c) e)) (Went (moved_to c p)) (Failed id) (still_fits c p r full h.1) tt
  act_fits c v (actions.Suppose e p) r full whole h =
      if_fits (is_true (value (state_of c) e)) (Went (moved_to c p)) Blocked (still_fits c p r full h.1) tt
  act_fits c v (actions.Demand id at e args p) r full whole h =
      if_fits (is_true (value (passed_state (state_of c) args) e)) (Went (moved_to c p)) (Failed id) (still_fits c p r full h.2) tt
  act_fits c v (actions.Write cs es p) r full whole h =
      let d : Config = all_written c cs (values (state_of c) es) in
      moved_fits c d (moved_to d p) r (same_all_written c cs (values (state_of c) es)) full refl refl refl refl refl h.3
  act_fits c v (actions.Guess x p) r full whole h =
      moved_fits c (written c x v) (moved_to (written c x v) p) r (same_written c x v) full refl refl refl refl refl h.1
  act_fits c v (actions.Test e hit miss) r full whole h =
      still_fits c (if is_true (value (state_of c) e) then hit else miss) r full
      (either_keeps c.top.proc r.top.procedure r.top.body (is_true (value (state_of c) e)) hit miss h.1 h.2)
  act_fits c v (actions.Pick ways) r full whole h = ways_fit c ways (unsigned_abs v) r full h.1
  act_fits c v (actions.Jump p) r full whole h = still_fits c p r full h
  act_fits c v (actions.Enter f args) r full whole h = entered_fits c f args (length r.top.procedure.locals) r full whole h.0 h.1 h.2 h.3
  act_fits c v (actions.Keep f args x p) r full whole h =
      moved_fits c c (kept_to c v p) r (same_self c) full refl refl refl refl refl
      (subst (λ (k : ℕ). Keeps t c.top.proc r.top.procedure r.top.body p k) (sym (one_more c.top.kept v)) (h.2 (length c.top.kept) r.top.keeps.kept))
  act_fits c v (actions.Grant f args e p) r full whole h =
      if_fits (is_true (value (granted_state t c f args) e)) (Went (kept_on c p)) Blocked
      (moved_fits c c (kept_on c p) r (same_self c) full refl refl refl refl refl (h.2 (length c.top.kept) r.top.keeps.kept).1) tt
  act_fits c v (actions.Finish f args targets p) r full whole h =
      moved_fits c (finished t c f targets) (moved_to (finished t c f targets) p) r (same_finished t c f targets) full refl refl refl refl refl h.4
  act_fits c v actions.Leave r full whole h = left_fits c c.below r full r.below r.calls

  -- ---- choices, steps and runs

  with_global_fits : (c : Config) (v : ℤ) → Fits c → length c.globals < length t.globals → Fits (with_global c v)
  with_global_fits c v r less =
      record {
        top = record { procedure = r.top.procedure; body = r.top.body; found = r.top.found; has = r.top.has; keeps = r.top.keeps };
        globals = omega (arith, one_more c.globals v, less);
        entry = one_more c.top.entry v ∙ ap (λ (k : ℕ). k + 1) r.entry ∙ sym (one_more c.globals v);
        locals = r.locals;
        choosing = λ more. r.choosing less;
        below = r.below;
        calls = r.calls;
      }

  with_local_fits : (c : Config) (v : ℤ) → Fits c → length c.top.locals < length (locals_at t c.top.proc) → Fits (with_local c v)
  with_local_fits c v r less =
      record {
        top = record { procedure = r.top.procedure; body = r.top.body; found = r.top.found; has = r.top.has; keeps = r.top.keeps };
        globals = r.globals;
        entry = r.entry;
        locals = omega (arith, one_more c.top.locals v, less);
        choosing = r.choosing;
        below = r.below;
        calls = r.calls;
      }

  by_test : (b : Bool) (x y : Outcome) → (b ≡ true → OutcomeFits x) → (b ≡ false → OutcomeFits y) → OutcomeFits (if b then x else y)
  by_test true x y h k = h refl
  by_test false x y h k = k refl

  -- the action of the frame that runs
  pub top_known : (c : Config) → (r : Fits c) → ActionKnown t c.top.proc r.top.procedure r.top.body c.top.point (action_at t c.top.proc c.top.point)
  top_known c r = action_known t valid c.top.proc r.top.procedure r.top.body r.top.found r.top.has c.top.point (length c.top.kept) r.top.keeps

  next_fits : (c : Config) (v : ℤ) → Fits c → OutcomeFits (next t c v)
  next_fits c v r =
      by_test (nat_lt (length c.globals) (length t.globals)) _ _ (λ less. with_global_fits c v r (below_of (length c.globals) (length t.globals) less))
      (λ full.
      by_test (nat_lt (length c.top.locals) (length (locals_at t c.top.proc))) _ _
      (λ less. with_local_fits c v r (below_of (length c.top.locals) (length (locals_at t c.top.proc)) less))
      (λ whole.
      act_fits c v (action_at t c.top.proc c.top.point) r (most_of (length c.globals) (length t.globals) full)
      (most_of (length c.top.locals) (length (locals_at t c.top.proc)) whole) (top_known c r)))

  step_fits : (c : Config) (choice : Option ℤ) → Fits c → OutcomeFits (step t c choice)
  step_fits c choice r = if_fits (is_taken (need t c) choice) (next t c (or_zero choice)) Refused (next_fits c (or_zero choice) r) tt

  then_fits : (o : Outcome) (rest : Config → Outcome) → OutcomeFits o → ((d : Config) → Fits d → OutcomeFits (rest d)) → OutcomeFits (then_goes_on o rest)
  then_fits (Went c) rest h k = k c h
  then_fits Blocked rest h k = tt
  then_fits (Failed i) rest h k = tt
  then_fits Ended rest h k = tt
  then_fits Refused rest h k = tt

  run_fits : (c : Config) (choices : List (Option ℤ)) → Fits c → OutcomeFits (run t c choices)
  run_fits c [] r = r
  run_fits c (choice ∷ choices) r = then_fits (step t c choice) (λ d. run t d choices) (step_fits c choice r) (λ d s. run_fits d choices s)

  -- ---- the start

  unless_starts : (q : TypedProcedure) (b : TypedBlock) (es : List TypedExpression) (p : Point) → es ≡ start_conditions t q → Keeps t t.entry q b p 0 →
      Keeps t t.entry q b (unless_none es p) 0
  unless_starts q b [] p e h = h
  unless_starts q b (x ∷ es) p e h =
      let less : 0 < length (x ∷ es) = omega arith in
      record { nested = tt; stands = (refl, subst (λ (ys : List TypedExpression). 0 < length ys) e less); kept = tt }

  point_of_some : (q : TypedProcedure) (b : TypedBlock) (o : Option TypedProcedure) (m : Option TypedBlock) → o ≡ Some q → q.body ≡ m → Keeps t t.entry q b (point_of_call t t.entry o) 0 →
      Keeps t t.entry q b (point_of_procedure t t.entry q m) 0
  point_of_some q b o m e d h =
      subst (λ (x : Option TypedBlock). Keeps t t.entry q b (point_of_procedure t t.entry q x) 0) d
      (subst (λ (x : Option TypedProcedure). Keeps t t.entry q b (point_of_call t t.entry x) 0) e h)

  start_fits : Fits (start t)
  start_fits =
      let entry = entry_found t valid in
      let q : TypedProcedure = entry.0 in
      let b : TypedBlock = entry.1 in
      let first = point_of_some q b (slice_get t.procs t.entry) q.body entry.2 refl (call_keeps t valid t.entry q b entry.2 entry.3) in
      let whole = unless_starts q b (start_conditions t q) (point_of_procedure t t.entry q q.body) refl first in
      record {
        top =
            record {
              procedure = q;
              body = b;
              found = entry.2;
              has = entry.3;
              keeps = subst (λ (o : Option TypedProcedure). Keeps t t.entry q b (start_point_of t o) 0) (sym entry.2) whole;
            };
        globals = omega arith;
        entry = refl;
        locals = omega arith;
        choosing = λ less. refl;
        below = tt;
        calls = tt;
      }

  pub reached_fits : (choices : List (Option ℤ)) (c : Config) → run t (start t) choices ≡ Went c → Fits c
  reached_fits choices c e = subst OutcomeFits e (run_fits (start t) choices start_fits)

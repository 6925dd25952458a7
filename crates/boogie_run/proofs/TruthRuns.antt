-- In a run of a valid program boolean variables hold truth values.
use Rattle.std.proofs.Common.{◌≡◌, ◌<◌, ◌≤◌, ℕ, zero, suc, ℤ, unsigned_abs, Bool, true, false, nat_lt, List, [], ◌∷◌, ◌++◌, length, take, drop, refl, ap, sym, ◌∙◌, subst, Option, None, Some, slice_get, IsTrue, if◌then◌else◌}
use Rattle.std.specs.List.{AllByRecursion}
use Rattle.math_facts.specs.Optional.{or_zero}
use Rattle.boogie_tree.specs.declared.tree.Column.{Column}
use Rattle.boogie_tree.specs.declared.tree.VarInfo.{VarInfo}
use Rattle.typed_tree.specs.Scope.{body_scope}
use Rattle.typed_tree.specs.Values.{value}
use Rattle.typed_tree.specs.Laws.{BooleansHold}
use Rattle.typed_tree.specs.TypedTree.{TypedExpression, TypedBlock, TypedProcedure, TypedProgram}
use Rattle.typed_tree.specs.TypingRules.ValidProgram.{is_valid}
use Rattle.boogie_run.specs.BoogiePoints.Points.{Point, settled, past_first}
use Rattle.boogie_run.specs.BoogiePoints.Actions as actions
use Rattle.boogie_run.specs.BoogiePoints.Actions.{Action, action_at, free_conditions, start_conditions}
use Rattle.boogie_run.specs.BoogiePoints.Starts.{point_of_procedure, point_of_call, unless_none, start_point_of, targets_at}
use Rattle.boogie_run.specs.Configurations.{Frame, Config, state_of}
use Rattle.boogie_run.specs.Needs.{need, need_of_action, is_taken, locals_at, locals_if_any}
use Rattle.boogie_run.specs.Steps.{Outcome, Went, Blocked, Failed, Ended, Refused, values, written, all_written, all_put, modifies_of, moved_to, kept_on, kept_to, passed_state, granted_state, finished, left, results_left, results_if_any, is_true, went_if, act, with_global, with_local, next, step, start}
use Rattle.boogie_run.specs.Runs.{then_goes_on, run}
use Rattle.boogie_run.specs.Laws.{TruthsHold, FrameHolds}
use Rattle.boogie_run.proofs.NextLemmas.{need_global, need_local, need_action}
use Rattle.boogie_run.proofs.ToldLemmas.{need_told}
use Rattle.boogie_run.proofs.TypedActions.{ActionKept, action_kept}
use Rattle.boogie_run.proofs.Constants as constants
use Rattle.boogie_run.proofs.Constants.{Follows, follows_self, written_follows, all_written_follows, Sound, OutcomeSound}
use Rattle.boogie_run.proofs.TruthColumns.{holds_none, append_holds, part_holds, ValuesHold, ColumnsHold, booleans_hold, BothHold, all_written_holds, one_written_holds, all_put_holds, NeedHolds, taken_holds, need_holds, column_holds}
use Rattle.boogie_run.proofs.TruthActions.{KeptTrue, FreshAt, CallsAt, ActionTrue, action_true, settled_fresh, entry_point_fresh, returned_hold}

module _ (t : TypedProgram) (valid : IsTrue (is_valid t)) where
  -- each frame stands at the call of the one above it
  abbrev Calling : ℕ → List Frame → Type 0
  Calling n [] = Unit {0}
  Calling n (f ∷ fs) = CallsAt f.point.todo n × Calling f.proc fs

  record RunTrue (c : Config) : Type 0 where
    globals : TruthsHold t.globals c.globals
    top : FrameHolds t c.top
    below : AllByRecursion (FrameHolds t) c.below
    calls : Calling c.top.proc c.below
    chosen : KeptTrue t c.top.point c.top.kept

  abbrev OutcomeTrue : Outcome → Type 0
  OutcomeTrue (Went d) = RunTrue d
  OutcomeTrue Blocked = Unit {0}
  OutcomeTrue (Failed i) = Unit {0}
  OutcomeTrue Ended = Unit {0}
  OutcomeTrue Refused = Unit {0}

  if_true : (b : Bool) (x y : Outcome) → OutcomeTrue x → OutcomeTrue y → OutcomeTrue (if b then x else y)
  if_true true x y h k = h
  if_true false x y h k = k

  -- another point of the same procedure, behind writes of truth values
  moved_true : (c d e : Config) → RunTrue c → Follows t c d → BothHold t.globals (locals_at t c.top.proc) d →
      e.globals ≡ d.globals → e.top.locals ≡ d.top.locals → e.top.entry ≡ d.top.entry → e.top.proc ≡ d.top.proc → e.below ≡ d.below → KeptTrue t e.top.point e.top.kept → RunTrue e
  moved_true c d e r f both g l n p b kept =
      record {
        globals = subst (TruthsHold t.globals) (sym g) both.0;
        top = (
          subst (TruthsHold t.globals) (sym (n ∙ f.entry)) r.top.0,
          subst (λ (m : ℕ). TruthsHold (locals_at t m) e.top.locals) (sym (p ∙ f.proc)) (subst (TruthsHold (locals_at t c.top.proc)) (sym l) both.1),
        );
        below = subst (AllByRecursion (FrameHolds t)) (sym (b ∙ f.below)) r.below;
        calls = subst (λ (m : ℕ). Calling m e.below) (sym (p ∙ f.proc)) (subst (Calling c.top.proc) (sym (b ∙ f.below)) r.calls);
        chosen = kept;
      }

  still_true : (c e : Config) → RunTrue c → e.globals ≡ c.globals → e.top.locals ≡ c.top.locals → e.top.entry ≡ c.top.entry → e.top.proc ≡ c.top.proc → e.below ≡ c.below →
      KeptTrue t e.top.point e.top.kept → RunTrue e
  still_true c e r g l n p b kept = moved_true c c e r (follows_self t c) (r.globals, r.top.1) g l n p b kept

  ways_true : (c : Config) (ways : List Point) (n : ℕ) → RunTrue c → AllByRecursion (FreshAt t) ways → OutcomeTrue (went_if (slice_get ways n) c)
  ways_true c [] n r h = tt
  ways_true c (p ∷ ps) zero r h = still_true c (moved_to c p) r refl refl refl refl refl h.0
  ways_true c (p ∷ ps) (suc n) r h = ways_true c ps n r h.1

  either_fresh : (b : Bool) (hit miss : Point) → FreshAt t hit → FreshAt t miss → FreshAt t (if b then hit else miss)
  either_fresh true hit miss h m = h
  either_fresh false hit miss h m = m

  body_fresh : (f : ℕ) (q : TypedProcedure) (o : Option TypedBlock) → FreshAt t (point_of_procedure t f q o)
  body_fresh f q None = tt
  body_fresh f q (Some b) = entry_point_fresh t (free_conditions q.specs) _

  call_fresh : (f : ℕ) (o : Option TypedProcedure) → FreshAt t (point_of_call t f o)
  call_fresh f None = tt
  call_fresh f (Some q) = body_fresh f q q.body

  -- the state of the frame that runs
  state_holds : (c : Config) (q : TypedProcedure) → slice_get t.procs c.top.proc ≡ Some q → RunTrue c → BooleansHold (body_scope t.globals q.locals) (state_of c)
  state_holds c q e r =
      booleans_hold t.globals q.locals (state_of c) r.globals r.top.0 (subst (λ (ls : List VarInfo). TruthsHold ls c.top.locals) (ap locals_if_any e) r.top.1)

  all_columns : (c : Config) (q : TypedProcedure) (zs : List ℤ) (cs : List Column) → slice_get t.procs c.top.proc ≡ Some q → ColumnsHold t.globals q.locals zs cs →
      ColumnsHold t.globals (locals_at t c.top.proc) zs cs
  all_columns c q zs cs e h = subst (λ (ls : List VarInfo). ColumnsHold t.globals ls zs cs) (sym (ap locals_if_any e)) h

  results_hold : (c : Config) (p : TypedProcedure) → slice_get t.procs c.top.proc ≡ Some p → RunTrue c → ValuesHold (results_left t c.top) (take p.results (drop p.params p.locals))
  results_hold c p e r =
      subst (λ (o : Option TypedProcedure). ValuesHold (results_if_any o c.top.locals) (take p.results (drop p.params p.locals))) (sym e)
      (part_holds p.params p.results c.top.locals p.locals (subst (λ (ls : List VarInfo). TruthsHold ls c.top.locals) (ap locals_if_any e) r.top.1))

  left_true : (c : Config) (fs : List Frame) → constants.FrameSound t valid c.globals c.top → AllByRecursion (constants.FrameSound t valid c.globals) fs →
      RunTrue c → AllByRecursion (FrameHolds t) fs → Calling c.top.proc fs → OutcomeTrue (left t c fs)
  left_true c [] top s r h k = tt
  left_true c (f ∷ fs) top s r h k =
      let d : Config = record { globals = c.globals; top = record f { kept = [] }; below = fs } in
      let start_here : Config = record { globals = c.globals; top = f; below = fs } in
      let p : Point = settled (past_first t.procs f.point.todo) in
      let targets : List Column = targets_at f.point.todo in
      let zs : List ℤ = results_left t c.top in
      let e : Config = all_written start_here targets zs in
      let back : ColumnsHold t.globals s.0.procedure.locals zs targets =
      returned_hold t s.0.procedure top.procedure c.top.proc zs f.point.todo s.0.kept k.0 top.found (results_hold c top.procedure top.found r) in
      let follows = all_written_follows t start_here targets zs (constants.targets_vary t valid s.0.procedure f.point.todo s.0.kept) in
      let both = all_written_holds t.globals (locals_at t f.proc) start_here targets zs (r.globals, h.0.1) (all_columns start_here s.0.procedure zs targets s.0.found back) in
      record {
        globals = both.0;
        top =
            (subst (TruthsHold t.globals) (sym follows.entry) h.0.0, subst (λ (m : ℕ). TruthsHold (locals_at t m) e.top.locals) (sym follows.proc) both.1);
        below = subst (AllByRecursion (FrameHolds t)) (sym follows.below) h.1;
        calls = subst (λ (m : ℕ). Calling m e.below) (sym follows.proc) (subst (Calling f.proc) (sym follows.below) k.1);
        chosen = settled_fresh t (past_first t.procs f.point.todo);
      }

  act_true : (c : Config) (v : ℤ) (a : Action) (s : Sound t valid c) → RunTrue c → ActionKept t s.top.procedure a → ActionTrue t s.top.procedure c.top.point a →
      NeedHolds (need_of_action t c.top.proc a) v → OutcomeTrue (act t c v a)
  act_true c v (actions.Check id at e p) s r k h w =
      if_true (is_true (value (state_of c) e)) (Went (moved_to c p)) (Failed id) (still_true c (moved_to c p) r refl refl refl refl refl h) tt
  act_true c v (actions.Suppose e p) s r k h w =
      if_true (is_true (value (state_of c) e)) (Went (moved_to c p)) Blocked (still_true c (moved_to c p) r refl refl refl refl refl h) tt
  act_true c v (actions.Demand id at e args p) s r k h w =
      if_true (is_true (value (passed_state (state_of c) args) e)) (Went (moved_to c p)) (Failed id) (still_true c (moved_to c p) r refl refl refl refl refl h) tt
  act_true c v (actions.Write cs es p) s r k h w =
      let zs : List ℤ = values (state_of c) es in
      let hold = all_columns c s.top.procedure zs cs s.top.found (h.0 (state_of c) (state_holds c s.top.procedure s.top.found r)) in
      moved_true c (all_written c cs zs) (moved_to (all_written c cs zs) p) r (all_written_follows t c cs zs k.0)
      (all_written_holds t.globals (locals_at t c.top.proc) c cs zs (r.globals, r.top.1) hold) refl refl refl refl refl h.1
  act_true c v (actions.Guess x p) s r k h w =
      moved_true c (written c x v) (moved_to (written c x v) p) r (written_follows t c x v k.0)
      (one_written_holds t.globals (locals_at t c.top.proc) c x v (r.globals, r.top.1) (column_holds t.globals (locals_at t c.top.proc) x v w)) refl refl refl refl refl h
  act_true c v (actions.Test e hit miss) s r k h w =
      still_true c (moved_to c (if is_true (value (state_of c) e) then hit else miss)) r refl refl refl refl refl
      (either_fresh (is_true (value (state_of c) e)) hit miss h.0 h.1)
  act_true c v (actions.Pick ways) s r k h w = ways_true c ways (unsigned_abs v) r h
  act_true c v (actions.Jump p) s r k h w = still_true c (moved_to c p) r refl refl refl refl refl h
  act_true c v (actions.Enter f args) s r k h w =
      record {
        globals = r.globals;
        top = (r.globals, h.0 (state_of c) (state_holds c s.top.procedure s.top.found r));
        below = (r.top, r.below);
        calls = (h.1, r.calls);
        chosen = call_fresh f (slice_get t.procs f);
      }
  act_true c v (actions.Keep f args x p) s r k h w =
      still_true c (kept_to c v p) r refl refl refl refl refl (h c.top.kept v r.chosen (column_holds t.globals (locals_at t f) x v w))
  act_true c v (actions.Grant f args e p) s r k h w =
      if_true (is_true (value (granted_state t c f args) e)) (Went (kept_on c p)) Blocked (still_true c (kept_on c p) r refl refl refl refl refl (h c.top.kept r.chosen)) tt
  act_true c v (actions.Finish f args targets p) s r k h w =
      let ns : List ℕ = modifies_of (slice_get t.procs f) in
      let hold = h.0 c.top.kept r.chosen in
      let d : Config = record c { globals = all_put c.globals ns c.top.kept } in
      let zs : List ℤ = drop (length ns) c.top.kept in
      moved_true c (finished t c f targets) (moved_to (finished t c f targets) p) r (constants.finished_follows t valid c f targets k.0)
      (all_written_holds t.globals (locals_at t c.top.proc) d targets zs (all_put_holds t.globals (locals_at t f) c.globals ns c.top.kept r.globals hold.0, r.top.1)
      (all_columns c s.top.procedure zs targets s.top.found hold.1)) refl refl refl refl refl h.1
  act_true c v actions.Leave s r k h w = left_true c c.below s.top s.below r r.below r.calls

  -- ---- choices, steps and runs

  with_global_true : (c : Config) (v : ℤ) → Sound t valid c → RunTrue c → length c.globals < length t.globals → NeedHolds (need t c) v → RunTrue (with_global c v)
  with_global_true c v s r less w =
      let holds = need_holds (slice_get t.globals (length c.globals)) v (subst (λ n. NeedHolds n v) (need_global t c less) w) in
      let more = append_holds t.globals c.globals v r.globals holds in
      let longer : c.top.entry ++ v ∷ [] ≡ c.globals ++ v ∷ [] = ap (λ (zs : List ℤ). zs ++ v ∷ []) (s.choosing less).0 in
      record { globals = more; top = (subst (TruthsHold t.globals) (sym longer) more, r.top.1); below = r.below; calls = r.calls; chosen = r.chosen }

  with_local_true : (c : Config) (v : ℤ) → RunTrue c → length t.globals ≤ length c.globals → length c.top.locals < length (locals_at t c.top.proc) → NeedHolds (need t c) v →
      RunTrue (with_local c v)
  with_local_true c v r full less w =
      let holds = need_holds (slice_get (locals_at t c.top.proc) (length c.top.locals)) v (subst (λ n. NeedHolds n v) (need_local t c full less) w) in
      record {
        globals = r.globals;
        top = (r.top.0, append_holds (locals_at t c.top.proc) c.top.locals v r.top.1 holds);
        below = r.below;
        calls = r.calls;
        chosen = r.chosen;
      }

  by_test : (b : Bool) (x y : Outcome) → (b ≡ true → OutcomeTrue x) → (b ≡ false → OutcomeTrue y) → OutcomeTrue (if b then x else y)
  by_test true x y h k = h refl
  by_test false x y h k = k refl

  next_true : (c : Config) (v : ℤ) → Sound t valid c → RunTrue c → NeedHolds (need t c) v → OutcomeTrue (next t c v)
  next_true c v s r w =
      by_test (nat_lt (length c.globals) (length t.globals)) _ _
      (λ less. with_global_true c v s r (constants.below_of t valid (length c.globals) (length t.globals) less) w)
      (λ full.
      by_test (nat_lt (length c.top.locals) (length (locals_at t c.top.proc))) _ _
      (λ less.
      with_local_true c v r (constants.most_of t valid (length c.globals) (length t.globals) full)
      (constants.below_of t valid (length c.top.locals) (length (locals_at t c.top.proc)) less) w)
      (λ whole.
      let a : Action = action_at t c.top.proc c.top.point in
      let same = need_action t c (constants.most_of t valid (length c.globals) (length t.globals) full)
      (constants.most_of t valid (length c.top.locals) (length (locals_at t c.top.proc)) whole) ∙ sym (need_told t c.top.proc a) in
      act_true c v a s r
      (action_kept t s.top.procedure c.top.proc c.top.point (constants.bodies_kept t valid c.top.proc s.top.procedure s.top.found) s.top.found s.top.kept)
      (action_true t s.top.procedure c.top.proc c.top.point s.top.found s.top.kept) (subst (λ n. NeedHolds n v) same w)))

  step_test : (b : Bool) (x : Outcome) → (b ≡ true → OutcomeTrue x) → OutcomeTrue (if b then x else Refused)
  step_test true x h = h refl
  step_test false x h = tt

  step_true : (c : Config) (choice : Option ℤ) → Sound t valid c → RunTrue c → OutcomeTrue (step t c choice)
  step_true c choice s r =
      step_test (is_taken (need t c) choice) (next t c (or_zero choice)) (λ taken. next_true c (or_zero choice) s r (taken_holds (need t c) choice taken))

  then_true : (o : Outcome) (rest : Config → Outcome) → OutcomeSound t valid o → OutcomeTrue o → ((d : Config) → Sound t valid d → RunTrue d → OutcomeTrue (rest d)) →
      OutcomeTrue (then_goes_on o rest)
  then_true (Went c) rest s h k = k c s h
  then_true Blocked rest s h k = tt
  then_true (Failed i) rest s h k = tt
  then_true Ended rest s h k = tt
  then_true Refused rest s h k = tt

  run_true : (c : Config) (choices : List (Option ℤ)) → Sound t valid c → RunTrue c → OutcomeTrue (run t c choices)
  run_true c [] s r = r
  run_true c (choice ∷ choices) s r =
      then_true (step t c choice) (λ d. run t d choices) (constants.step_sound t valid c choice s) (step_true c choice s r) (λ d e f. run_true d choices e f)

  start_fresh : (o : Option TypedProcedure) → FreshAt t (start_point_of t o)
  start_fresh None = tt
  start_fresh (Some q) = unless_fresh (start_conditions t q) (point_of_procedure t t.entry q q.body) (body_fresh t.entry q q.body) where
    unless_fresh : (es : List TypedExpression) (p : Point) → FreshAt t p → FreshAt t (unless_none es p)
    unless_fresh [] p h = h
    unless_fresh (e ∷ es) p h = tt

  start_true : RunTrue (start t)
  start_true =
      record {
        globals = holds_none t.globals;
        top = (holds_none t.globals, holds_none (locals_at t t.entry));
        below = tt;
        calls = tt;
        chosen = start_fresh (slice_get t.procs t.entry);
      }

  pub truths_stay : (choices : List (Option ℤ)) (c : Config) → run t (start t) choices ≡ Went c →
      TruthsHold t.globals c.globals × FrameHolds t c.top × AllByRecursion (FrameHolds t) c.below
  truths_stay choices c e =
      let r : RunTrue c = subst OutcomeTrue e (run_true (start t) choices (constants.start_sound t valid) start_true) in
      (r.globals, r.top, r.below)

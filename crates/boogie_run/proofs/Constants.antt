-- In a run of a valid program the constants at the entry of each frame are the constants now.
use Rattle.std.proofs.Common.{◌≡◌, ◌<◌, ◌≤◌, ℕ, zero, suc, ℤ, unsigned_abs, Bool, true, false, ◌&&◌, not, nat_lt, List, [], ◌∷◌, ◌++◌, length, map, drop, refl, ap, sym, ◌∙◌, subst, Option, None, Some, slice_get, IsTrue, arith, if◌then◌else◌}
use Rattle.std.specs.List.{AllByRecursion, list_all}
use Rattle.std.proofs.lemmas.Bool.{and_parts, false≢true}
use Rattle.std.proofs.lemmas.Bool.Decides.{nat_tests}
use Rattle.math_facts.specs.Optional.{or_zero}
use Rattle.boogie_tree.specs.declared.tree.Column.{Column}
use Rattle.boogie_tree.specs.declared.tree.Column.TheVariants as columns
use Rattle.boogie_tree.specs.declared.tree.VarInfo.{VarInfo}
use Rattle.typed_tree.specs.Values.{member, value}
use Rattle.typed_tree.specs.Scope.{axiom_scope}
use Rattle.typed_tree.specs.TypedTree.{TypedExpression, TypedBlock, Empty, Then, Assert, Assume, Havoc, Assign, Call, If, While, Break, Goto, Return, Label, TypedProcedure, TypedProgram}
use Rattle.typed_tree.specs.TypingRules.Counts.{numbers_fit}
use Rattle.typed_tree.specs.TypingRules.Rules.{meets, is_condition, is_specification, procedure_keeps_rules, is_body_if_any, within, context_of, keeps_typing}
use Rattle.typed_tree.specs.TypingRules.Shape.{are_names, are_locals, are_modified, is_body_shaped, is_procedure_shaped, has_shape}
use Rattle.typed_tree.specs.TypingRules.ValidProgram.{has_body, has_entry, is_typed, is_valid}
use Rattle.boogie_run.specs.BoogiePoints.Points.{Todo, Point, settled, past_first}
use Rattle.boogie_run.specs.BoogiePoints.Actions as actions
use Rattle.boogie_run.specs.BoogiePoints.Actions.{Action, action_at, first_assertion, first_place, free_conditions, start_conditions}
use Rattle.boogie_run.specs.BoogiePoints.Starts.{point_of_procedure, point_of_call, unless_none, start_point_of, targets_at}
use Rattle.boogie_run.specs.Configurations.{Frame, Config, state_of}
use Rattle.boogie_run.specs.Needs.{need, is_taken, locals_at}
use Rattle.boogie_run.specs.Steps.{Outcome, Went, Blocked, Failed, Ended, Refused, put, written, all_written, all_put, modifies_of, moved_to, kept_on, kept_to, passed_state, granted_state, finished, entered, left, results_left, is_true, went_if, act, with_global, with_local, next, step, start}
use Rattle.boogie_run.specs.Runs.{then_goes_on, run}
use Rattle.boogie_run.specs.Laws.{SameConstants}
use Rattle.boogie_run.proofs.TypedPoints.{IsKept, AreKept, settled_kept, past_first_kept}
use Rattle.boogie_run.proofs.TypedActions.{Varies, call_varies, PointKept, ActionKept, entry_point_kept, action_kept}

-- ---- what a write changes

put_other : (zs : List ℤ) (n m : ℕ) (v : ℤ) → (n ≡ m → ⊥) → member (put zs n v) m ≡ member zs m
put_other [] n m v h = refl
put_other (z ∷ zs) zero zero v h = absurd (h refl)
put_other (z ∷ zs) zero (suc m) v h = refl
put_other (z ∷ zs) (suc n) zero v h = refl
put_other (z ∷ zs) (suc n) (suc m) v h = put_other zs n m v (λ e. h (ap suc e))

length-put : (zs : List ℤ) (n : ℕ) (v : ℤ) → length (put zs n v) ≡ length zs
length-put [] n v = refl
length-put (z ∷ zs) zero v = refl
length-put (z ∷ zs) (suc n) v = ap suc (length-put zs n v)

put_constants : (t : TypedProgram) (zs : List ℤ) (n : ℕ) (v : ℤ) → Varies t (columns.Global n) → SameConstants t (put zs n v) zs
put_constants t zs n v h m w at constant =
    put_other zs n m v (λ (e : n ≡ m). false≢true (sym (h w (ap (slice_get t.globals) e ∙ at)) ∙ constant))

-- of the constants and globals only variables differ, and of the frame that runs only the locals and what is kept
pub record Follows (t : TypedProgram) (c d : Config) : Type 0 where
  pub constants : SameConstants t d.globals c.globals
  pub count : length d.globals ≡ length c.globals
  pub entry : d.top.entry ≡ c.top.entry
  pub proc : d.top.proc ≡ c.top.proc
  pub point : d.top.point ≡ c.top.point
  pub below : d.below ≡ c.below

pub follows_self : (t : TypedProgram) (c : Config) → Follows t c c
follows_self t c = record { constants = λ n v at h. refl; count = refl; entry = refl; proc = refl; point = refl; below = refl }

follows_on : (t : TypedProgram) (c d e : Config) → Follows t c d → Follows t d e → Follows t c e
follows_on t c d e f g =
    record {
      constants = λ n v at h. g.constants n v at h ∙ f.constants n v at h;
      count = g.count ∙ f.count;
      entry = g.entry ∙ f.entry;
      proc = g.proc ∙ f.proc;
      point = g.point ∙ f.point;
      below = g.below ∙ f.below;
    }

pub written_follows : (t : TypedProgram) (c : Config) (x : Column) (v : ℤ) → Varies t x → Follows t c (written c x v)
written_follows t c (columns.Global n) v h =
    record { constants = put_constants t c.globals n v h; count = length-put c.globals n v; entry = refl; proc = refl; point = refl; below = refl }
written_follows t c (columns.Old n) v h = follows_self t c
written_follows t c (columns.Local n) v h = record { constants = λ m w at e. refl; count = refl; entry = refl; proc = refl; point = refl; below = refl }

pub all_written_follows : (t : TypedProgram) (c : Config) (xs : List Column) (vs : List ℤ) → AllByRecursion (Varies t) xs → Follows t c (all_written c xs vs)
all_written_follows t c [] vs h = follows_self t c
all_written_follows t c (x ∷ xs) [] h = follows_self t c
all_written_follows t c (x ∷ xs) (v ∷ vs) h =
    follows_on t c (written c x v) (all_written (written c x v) xs vs) (written_follows t c x v h.0) (all_written_follows t (written c x v) xs vs h.1)

abbrev AllVary : TypedProgram → List ℕ → Type 0
AllVary t ns = AllByRecursion (λ (n : ℕ). Varies t (columns.Global n)) ns

all_put_constants : (t : TypedProgram) (zs : List ℤ) (ns : List ℕ) (vs : List ℤ) → AllVary t ns →
    SameConstants t (all_put zs ns vs) zs × (length (all_put zs ns vs) ≡ length zs)
all_put_constants t zs [] vs h = (λ n v at e. refl, refl)
all_put_constants t zs (n ∷ ns) [] h = (λ m v at e. refl, refl)
all_put_constants t zs (n ∷ ns) (v ∷ vs) h =
    let rest = all_put_constants t (put zs n v) ns vs h.1 in
    (λ m w at e. rest.0 m w at e ∙ put_constants t zs n v h.0 m w at e, rest.1 ∙ length-put zs n v)

-- ---- what a valid program keeps

all_at : {X : Type 0} (p : X → Bool) (xs : List X) (n : ℕ) (x : X) → list_all p xs ≡ true → slice_get xs n ≡ Some x → p x ≡ true
all_at p [] n x h e = cc
all_at p (y ∷ ys) zero x h e = let same : y ≡ x = cc in ap p (sym same) ∙ (and_parts (p y) (list_all p ys) h).0
all_at p (y ∷ ys) (suc n) x h e = all_at p ys n x (and_parts (p y) (list_all p ys) h).1 e

module _ (t : TypedProgram) (valid : IsTrue (is_valid t)) where
  typed_part : is_typed t ≡ true
  typed_part = (and_parts (is_typed t) (numbers_fit t) valid).0

  shape_part : has_shape t ≡ true
  shape_part = (and_parts (has_shape t) (keeps_typing t && has_entry t) typed_part).0

  rules_part : (keeps_typing t && has_entry t) ≡ true
  rules_part = (and_parts (has_shape t) (keeps_typing t && has_entry t) typed_part).1

  pub bodies_kept : (n : ℕ) (q : TypedProcedure) → slice_get t.procs n ≡ Some q → (b : TypedBlock) → q.body ≡ Some b → IsKept t q b
  bodies_kept n q at b e =
      let procedures = (and_parts (list_all (is_condition (axiom_scope t.globals)) t.axioms) (list_all (procedure_keeps_rules t.globals t.procs) t.procs)
      (and_parts (keeps_typing t) (has_entry t) rules_part).0).1 in
      let whole = all_at (procedure_keeps_rules t.globals t.procs) t.procs n q procedures at in
      let body = (and_parts (list_all (is_specification t.globals q) q.specs) (is_body_if_any (context_of t.globals t.procs q) q.body) whole).1 in
      record {
        context = within (context_of t.globals t.procs q) b;
        inside = record { scope = refl; procs = refl; modifies = refl };
        kept = subst (λ (o : Option TypedBlock). is_body_if_any (context_of t.globals t.procs q) o ≡ true) e body;
      }

  not_of : (b : Bool) → not b ≡ true → b ≡ false
  not_of true h = sym h
  not_of false h = refl

  one_varies : (o : Option VarInfo) (v : VarInfo) → meets (λ (w : VarInfo). not w.constant) o ≡ true → o ≡ Some v → v.constant ≡ false
  one_varies o v h e = not_of v.constant (subst (λ (p : Option VarInfo). meets (λ (w : VarInfo). not w.constant) p ≡ true) e h)

  all_vary : (ns : List ℕ) → list_all (λ (n : ℕ). meets (λ (v : VarInfo). not v.constant) (slice_get t.globals n)) ns ≡ true → AllVary t ns
  all_vary [] h = tt
  all_vary (n ∷ ns) h =
      let parts = and_parts (meets (λ (v : VarInfo). not v.constant) (slice_get t.globals n)) (list_all (λ (m : ℕ). meets (λ (v : VarInfo). not v.constant) (slice_get t.globals m)) ns) h in
      (λ v at. one_varies (slice_get t.globals n) v parts.0 at, all_vary ns parts.1)

  procedure_varies : (n : ℕ) (q : TypedProcedure) → slice_get t.procs n ≡ Some q → AllVary t q.modifies
  procedure_varies n q at =
      let names = (and_parts (are_names (map (λ v. v.name) t.globals)) (are_names (map (λ p. p.name) t.procs) && list_all (is_procedure_shaped t.globals t.procs) t.procs) shape_part).1 in
      let whole = all_at (is_procedure_shaped t.globals t.procs) t.procs n q (and_parts (are_names (map (λ p. p.name) t.procs)) (list_all (is_procedure_shaped t.globals t.procs) t.procs) names).1 at in
      let rest = (and_parts (are_names (map (λ v. v.name) q.locals)) (are_locals q && (are_modified t.globals q.modifies && is_body_shaped t.procs q.body)) whole).1 in
      let last = (and_parts (are_locals q) (are_modified t.globals q.modifies && is_body_shaped t.procs q.body) rest).1 in
      let modified = (and_parts (are_modified t.globals q.modifies) (is_body_shaped t.procs q.body) last).0 in
      all_vary q.modifies (and_parts (list_all (λ (n : ℕ). meets (λ (v : VarInfo). not v.constant) (slice_get t.globals n)) q.modifies) _ modified).0

  any_varies : (n : ℕ) (o : Option TypedProcedure) → slice_get t.procs n ≡ o → AllVary t (modifies_of o)
  any_varies n None at = tt
  any_varies n (Some q) at = procedure_varies n q at

  -- ---- configurations

  -- the procedure exists, its blocks keep the typing rules, and its constants at the entry are those now
  pub record FrameSound (gs : List ℤ) (f : Frame) : Type 0 where
    pub procedure : TypedProcedure
    pub found : slice_get t.procs f.proc ≡ Some procedure
    pub kept : AreKept t procedure f.point.todo
    pub constants : SameConstants t gs f.entry

  pub record Sound (c : Config) : Type 0 where
    pub top : FrameSound c.globals c.top
    pub below : AllByRecursion (FrameSound c.globals) c.below
    -- while constants and globals are chosen there is one frame, and its entry is now
    pub choosing : length c.globals < length t.globals → (c.top.entry ≡ c.globals) × (c.below ≡ [])

  abbrev pub OutcomeSound : Outcome → Type 0
  OutcomeSound (Went d) = Sound d
  OutcomeSound Blocked = Unit {0}
  OutcomeSound (Failed i) = Unit {0}
  OutcomeSound Ended = Unit {0}
  OutcomeSound Refused = Unit {0}

  frames_on : (gs hs : List ℤ) (fs : List Frame) → SameConstants t hs gs → AllByRecursion (FrameSound gs) fs → AllByRecursion (FrameSound hs) fs
  frames_on gs hs [] h s = tt
  frames_on gs hs (f ∷ fs) h s = (
    record { procedure = s.0.procedure; found = s.0.found; kept = s.0.kept; constants = λ n v at e. h n v at e ∙ s.0.constants n v at e },
    frames_on gs hs fs h s.1,
  )

  -- another point of the same procedure, behind writes
  moved_sound : (c d e : Config) (s : Sound c) → length t.globals ≤ length c.globals → Follows t c d → PointKept t s.top.procedure e.top.point →
      e.globals ≡ d.globals → e.top.entry ≡ d.top.entry → e.top.proc ≡ d.top.proc → e.below ≡ d.below → Sound e
  moved_sound c d e s full f kept g n p b =
      let constants : SameConstants t e.globals c.globals = λ m v at h. ap (λ (zs : List ℤ). member zs m) g ∙ f.constants m v at h in
      record {
        top =
            record {
              procedure = s.top.procedure;
              found = ap (slice_get t.procs) (p ∙ f.proc) ∙ s.top.found;
              kept = kept;
              constants = λ m v at h. constants m v at h ∙ s.top.constants m v at h ∙ ap (λ (zs : List ℤ). member zs m) (sym (n ∙ f.entry));
            };
        below = subst (AllByRecursion (FrameSound e.globals)) (sym (b ∙ f.below)) (frames_on c.globals e.globals c.below constants s.below);
        choosing = λ less. absurd (omega (arith, ap length g, f.count));
      }

  if_sound : (b : Bool) (x y : Outcome) → OutcomeSound x → OutcomeSound y → OutcomeSound (if b then x else y)
  if_sound true x y h k = h
  if_sound false x y h k = k

  either_kept : (q : TypedProcedure) (b : Bool) (hit miss : Point) → PointKept t q hit → PointKept t q miss → PointKept t q (if b then hit else miss)
  either_kept q true hit miss h m = h
  either_kept q false hit miss h m = m

  ways_sound : (c : Config) (s : Sound c) (ways : List Point) (n : ℕ) → length t.globals ≤ length c.globals → AllByRecursion (PointKept t s.top.procedure) ways →
      OutcomeSound (went_if (slice_get ways n) c)
  ways_sound c s [] n full h = tt
  ways_sound c s (p ∷ ps) zero full h = moved_sound c c (moved_to c p) s full (follows_self t c) h.0 refl refl refl refl
  ways_sound c s (p ∷ ps) (suc n) full h = ways_sound c s ps n full h.1

  called_kept : (f : ℕ) (q : TypedProcedure) (o : Option TypedBlock) → ((b : TypedBlock) → o ≡ Some b → IsKept t q b) → PointKept t q (point_of_procedure t f q o)
  called_kept f q None h = tt
  called_kept f q (Some b) h = entry_point_kept t q (free_conditions q.specs) _ (h b refl)

  call_point_kept : (f : ℕ) (q : TypedProcedure) → slice_get t.procs f ≡ Some q → PointKept t q (point_of_call t f (slice_get t.procs f))
  call_point_kept f q e =
      subst (λ (o : Option TypedProcedure). PointKept t q (point_of_call t f o)) (sym e) (called_kept f q q.body (bodies_kept f q e))

  entered_sound : (c : Config) (f : ℕ) (args : List ℤ) (q : TypedProcedure) → Sound c → length t.globals ≤ length c.globals → slice_get t.procs f ≡ Some q →
      Sound (entered t c f args)
  entered_sound c f args q s full e =
      record {
        top = record { procedure = q; found = e; kept = call_point_kept f q e; constants = λ n v at h. refl };
        below = (s.top, s.below);
        choosing = λ less. absurd (omega arith);
      }

  block_targets : (q : TypedProcedure) (b : TypedBlock) (ts : List Todo) (l : Bool) (id at : ℕ) → IsKept t q b →
      AllByRecursion (Varies t) (targets_at (record { rest = b; of_loop = l; id = id; at = at } ∷ ts))
  block_targets q Empty ts l id place h = tt
  block_targets q (Then (Assert at e) b) ts l id place h = tt
  block_targets q (Then (Assume at e) b) ts l id place h = tt
  block_targets q (Then (Havoc at cs) b) ts l id place h = tt
  block_targets q (Then (Assign at cs es) b) ts l id place h = tt
  block_targets q (Then (Call at cs f es) b) ts l id place h = call_varies t q at cs f es b h
  block_targets q (Then (If at g x y) b) ts l id place h = tt
  block_targets q (Then (While at g is x) b) ts l id place h = tt
  block_targets q (Then (Break at n) b) ts l id place h = tt
  block_targets q (Then (Goto at ks) b) ts l id place h = tt
  block_targets q (Then (Return at) b) ts l id place h = tt
  block_targets q (Then (Label n) b) ts l id place h = tt

  pub targets_vary : (q : TypedProcedure) (ts : List Todo) → AreKept t q ts → AllByRecursion (Varies t) (targets_at ts)
  targets_vary q [] h = tt
  targets_vary q (d ∷ ts) h = block_targets q d.rest ts d.of_loop d.id d.at h.0

  left_sound : (c : Config) (fs : List Frame) → FrameSound c.globals c.top → AllByRecursion (FrameSound c.globals) fs → length t.globals ≤ length c.globals →
      OutcomeSound (left t c fs)
  left_sound c [] top s full = tt
  left_sound c (f ∷ fs) top s full =
      let d : Config = record { globals = c.globals; top = f; below = fs } in
      let sound : Sound d = record { top = s.0; below = s.1; choosing = λ less. absurd (omega arith) } in
      let e : Config = all_written d (targets_at f.point.todo) (results_left t c.top) in
      moved_sound d e (moved_to e (settled (past_first t.procs f.point.todo))) sound full
      (all_written_follows t d (targets_at f.point.todo) (results_left t c.top) (targets_vary s.0.procedure f.point.todo s.0.kept))
      (settled_kept t s.0.procedure (past_first t.procs f.point.todo) (past_first_kept t s.0.procedure f.point.todo s.0.kept)) refl refl refl refl

  pub finished_follows : (c : Config) (f : ℕ) (targets : List Column) → AllByRecursion (Varies t) targets → Follows t c (finished t c f targets)
  finished_follows c f targets h =
      let ns : List ℕ = modifies_of (slice_get t.procs f) in
      let puts = all_put_constants t c.globals ns c.top.kept (any_varies f (slice_get t.procs f) refl) in
      let d : Config = record c { globals = all_put c.globals ns c.top.kept } in
      follows_on t c d (finished t c f targets) (record { constants = puts.0; count = puts.1; entry = refl; proc = refl; point = refl; below = refl })
      (all_written_follows t d targets (drop (length ns) c.top.kept) h)

  act_sound : (c : Config) (v : ℤ) (a : Action) (s : Sound c) → length t.globals ≤ length c.globals → ActionKept t s.top.procedure a → OutcomeSound (act t c v a)
  act_sound c v (actions.Check id at e p) s full h =
      if_sound (is_true (value (state_of c) e)) (Went (moved_to c p)) (Failed id) (moved_sound c c (moved_to c p) s full (follows_self t c) h refl refl refl refl) tt
  act_sound c v (actions.Suppose e p) s full h =
      if_sound (is_true (value (state_of c) e)) (Went (moved_to c p)) Blocked (moved_sound c c (moved_to c p) s full (follows_self t c) h refl refl refl refl) tt
  act_sound c v (actions.Demand id at e args p) s full h =
      if_sound (is_true (value (passed_state (state_of c) args) e)) (Went (moved_to c p)) (Failed id)
      (moved_sound c c (moved_to c p) s full (follows_self t c) h refl refl refl refl) tt
  act_sound c v (actions.Write cs es p) s full h =
      moved_sound c (all_written c cs _) (moved_to (all_written c cs _) p) s full (all_written_follows t c cs _ h.0) h.1 refl refl refl refl
  act_sound c v (actions.Guess x p) s full h =
      moved_sound c (written c x v) (moved_to (written c x v) p) s full (written_follows t c x v h.0) h.1 refl refl refl refl
  act_sound c v (actions.Test e hit miss) s full h =
      moved_sound c c (moved_to c (if is_true (value (state_of c) e) then hit else miss)) s full (follows_self t c)
      (either_kept s.top.procedure (is_true (value (state_of c) e)) hit miss h.0 h.1) refl refl refl refl
  act_sound c v (actions.Pick ways) s full h = ways_sound c s ways (unsigned_abs v) full h
  act_sound c v (actions.Jump p) s full h = moved_sound c c (moved_to c p) s full (follows_self t c) h refl refl refl refl
  act_sound c v (actions.Enter f args) s full h = entered_sound c f _ h.0 s full h.1
  act_sound c v (actions.Keep f args x p) s full h = moved_sound c c (kept_to c v p) s full (follows_self t c) h refl refl refl refl
  act_sound c v (actions.Grant f args e p) s full h =
      if_sound (is_true (value (granted_state t c f args) e)) (Went (kept_on c p)) Blocked (moved_sound c c (kept_on c p) s full (follows_self t c) h refl refl refl refl) tt
  act_sound c v (actions.Finish f args targets p) s full h =
      moved_sound c (finished t c f targets) (moved_to (finished t c f targets) p) s full (finished_follows c f targets h.0) h.1 refl refl refl refl
  act_sound c v actions.Leave s full h = left_sound c c.below s.top s.below full

  -- ---- choices, steps and runs

  with_global_sound : (c : Config) (v : ℤ) → Sound c → length c.globals < length t.globals → Sound (with_global c v)
  with_global_sound c v s less =
      let same = s.choosing less in
      let longer : c.top.entry ++ v ∷ [] ≡ c.globals ++ v ∷ [] = ap (λ (zs : List ℤ). zs ++ v ∷ []) same.0 in
      record {
        top =
            record {
              procedure = s.top.procedure;
              found = s.top.found;
              kept = s.top.kept;
              constants = λ n w at h. ap (λ (zs : List ℤ). member zs n) (sym longer);
            };
        below = subst (AllByRecursion (FrameSound (c.globals ++ v ∷ []))) (sym same.1) tt;
        choosing = λ more. (longer, same.1);
      }

  with_local_sound : (c : Config) (v : ℤ) → Sound c → Sound (with_local c v)
  with_local_sound c v s =
      record {
        top = record { procedure = s.top.procedure; found = s.top.found; kept = s.top.kept; constants = s.top.constants };
        below = s.below;
        choosing = s.choosing;
      }

  pub by_test : (b : Bool) (x y : Outcome) → (b ≡ true → OutcomeSound x) → (b ≡ false → OutcomeSound y) → OutcomeSound (if b then x else y)
  by_test true x y h k = h refl
  by_test false x y h k = k refl

  pub below_of : (a b : ℕ) → nat_lt a b ≡ true → a < b
  below_of a b h = grind (arith, nat_tests)

  pub most_of : (a b : ℕ) → nat_lt a b ≡ false → b ≤ a
  most_of a b h = grind (arith, nat_tests)

  next_sound : (c : Config) (v : ℤ) → Sound c → OutcomeSound (next t c v)
  next_sound c v s =
      by_test (nat_lt (length c.globals) (length t.globals)) _ _ (λ less. with_global_sound c v s (below_of (length c.globals) (length t.globals) less))
      (λ full.
      by_test (nat_lt (length c.top.locals) (length (locals_at t c.top.proc))) _ _ (λ less. with_local_sound c v s)
      (λ whole.
      act_sound c v (action_at t c.top.proc c.top.point) s (most_of (length c.globals) (length t.globals) full)
      (action_kept t s.top.procedure c.top.proc c.top.point (bodies_kept c.top.proc s.top.procedure s.top.found) s.top.found s.top.kept)))

  pub step_sound : (c : Config) (choice : Option ℤ) → Sound c → OutcomeSound (step t c choice)
  step_sound c choice s = if_sound (is_taken (need t c) choice) (next t c (or_zero choice)) Refused (next_sound c (or_zero choice) s) tt

  then_sound : (o : Outcome) (rest : Config → Outcome) → OutcomeSound o → ((d : Config) → Sound d → OutcomeSound (rest d)) → OutcomeSound (then_goes_on o rest)
  then_sound (Went c) rest h k = k c h
  then_sound Blocked rest h k = tt
  then_sound (Failed i) rest h k = tt
  then_sound Ended rest h k = tt
  then_sound Refused rest h k = tt

  run_sound : (c : Config) (choices : List (Option ℤ)) → Sound c → OutcomeSound (run t c choices)
  run_sound c [] s = s
  run_sound c (choice ∷ choices) s = then_sound (step t c choice) (λ d. run t d choices) (step_sound c choice s) (λ d r. run_sound d choices r)

  meets_some : (o : Option TypedProcedure) → meets has_body o ≡ true → (q : TypedProcedure) × (o ≡ Some q)
  meets_some None h = absurd (false≢true h)
  meets_some (Some q) h = (q, refl)

  unless_kept : (q : TypedProcedure) (es : List TypedExpression) (p : Point) → PointKept t q p → PointKept t q (unless_none es p)
  unless_kept q [] p h = h
  unless_kept q (e ∷ es) p h = tt

  pub start_sound : Sound (start t)
  start_sound =
      let entry = meets_some (slice_get t.procs t.entry) (and_parts (keeps_typing t) (has_entry t) rules_part).1 in
      let q : TypedProcedure = entry.0 in
      let first = unless_kept q (start_conditions t q) (point_of_procedure t t.entry q q.body) (called_kept t.entry q q.body (bodies_kept t.entry q entry.1)) in
      record {
        top =
            record {
              procedure = q;
              found = entry.1;
              kept = subst (λ (o : Option TypedProcedure). PointKept t q (start_point_of t o)) (sym entry.1) first;
              constants = λ n v at h. refl;
            };
        below = tt;
        choosing = λ less. (refl, refl);
      }

  frames_constants : (gs : List ℤ) (fs : List Frame) → AllByRecursion (FrameSound gs) fs → AllByRecursion (λ (f : Frame). SameConstants t gs f.entry) fs
  frames_constants gs [] s = tt
  frames_constants gs (f ∷ fs) s = (s.0.constants, frames_constants gs fs s.1)

  pub constants_stay : (choices : List (Option ℤ)) (c : Config) → run t (start t) choices ≡ Went c →
      SameConstants t c.globals c.top.entry × AllByRecursion (λ (f : Frame). SameConstants t c.globals f.entry) c.below
  constants_stay choices c e =
      let s : Sound c = subst OutcomeSound e (run_sound (start t) choices start_sound) in
      (s.top.constants, frames_constants c.globals c.below s.below)

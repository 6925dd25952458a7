-- Where a call has entered a procedure and its locals were chosen, a run comes to where a body begins.
use Rattle.std.proofs.Common.{◌≡◌, ◌∙◌, ◌⊎◌, inl, inr, ℕ, zero, suc, ◌+◌, ◌<◌, ◌≤◌, ℤ, unsigned_abs, Bool, true, false, List, [], ◌∷◌, ◌++◌, length, Option, None, Some, refl, sym, ap, subst, arith, IsTrue}
use Rattle.std.specs.Prelude.{nat_lt, if◌then◌else◌, slice_get}
use Rattle.std.proofs.lemmas.Bool.{ltb-true, ltb-false}
use Rattle.std.proofs.lemmas.List.{length-append}
use Rattle.math_facts.specs.Optional.{or_zero}
use Rattle.boogie_tree.specs.declared.tree.Column.{Column}
use Rattle.boogie_tree.specs.declared.tree.Column.TheVariants as columns
use Rattle.typed_tree.specs.TypedTree as typed
use Rattle.typed_tree.specs.TypedTree.{TypedExpression, TypedGuard, TypedInvariant, TypedStatement, TypedBlock, TypedProcedure, TypedProgram}
use Rattle.typed_tree.specs.Values.{value}
use Rattle.typed_tree.specs.TypingRules.ValidProgram.{is_valid}
use Rattle.boogie_run.specs.BoogiePoints.Points.{Todo, Start, Entry, Body, Exit, Stage, Point, settled, unless_ended, past_first}
use Rattle.boogie_run.specs.BoogiePoints.Actions as actions
use Rattle.boogie_run.specs.BoogiePoints.Actions.{Action, guarded, checked, unseen_action, called_action, call_action, call_if_any, head_action, havoc_action, one_of, ways_to, statement_action, block_action, body_action, free_conditions, first_assertion, first_place, entry_point, first_point, entry_action, exit_action, start_action, stage_action, body_or_leave, procedure_action, action_at}
use Rattle.boogie_run.specs.BoogiePoints.Starts.{targets_at, point_of_procedure, point_of_call}
use Rattle.boogie_run.specs.BoogiePlaces.Places.{points_of_body, IsOneOf, program_places, IsPlaceIn}
use Rattle.boogie_run.proofs.BoogiePlaces.PlaceLaws.{first_is_listed}
use Rattle.boogie_run.specs.Configurations.{Frame, Config, state_of}
use Rattle.boogie_run.specs.Needs.{need, is_taken, locals_at}
use Rattle.boogie_run.specs.Steps.{Outcome, Went, Blocked, Failed, Ended, Refused, put, written, all_written, all_put, modifies_of, values, passed_state, granted_state, moved_to, kept_on, finished, entered, left, results_left, is_true, went_if, act, with_global, with_local, next, step, start}
use Rattle.boogie_run.specs.Runs.{then_goes_on, run}
use Rattle.boogie_run.proofs.RunLaws.{run_cut}
use Rattle.boogie_run.proofs.NextLemmas.{next_local}
use Rattle.lowered_graph.proofs.LoweredRuns.Taken.{went_if_true}
use Rattle.lowered_graph.proofs.KnownPlaces.{known_place}
use Rattle.explained_proof.specs.KnownRuns.Reached.{IsReached}
use Rattle.explained_proof.specs.ExplainedRuns.Laws.{IsBegun}

-- ---- calls enter procedures that have bodies

pub record HasBody (procs : List TypedProcedure) (f : ℕ) : Type 0 where
  pub procedure : TypedProcedure
  pub body : TypedBlock
  pub is : slice_get procs f ≡ Some procedure
  pub has : procedure.body ≡ Some body

abbrev EntersBody : List TypedProcedure → Action → Type 0
EntersBody procs (actions.Enter f args) = HasBody procs f
EntersBody procs a = Unit {0}

module _ (procs : List TypedProcedure) where
  checked_enters : (b : Bool) (id : ℕ) (i : TypedInvariant) (next : Point) → EntersBody procs (checked b id i.span i.cond next)
  checked_enters true id i next = tt
  checked_enters false id i next = tt

  guarded_enters : (g : TypedGuard) (hit miss : Point) → EntersBody procs (guarded g hit miss)
  guarded_enters typed.Any hit miss = tt
  guarded_enters (typed.Cond e) hit miss = tt

  head_enters : (o : Option TypedInvariant) (id : ℕ) (here : Point) (g : TypedGuard) (hit miss : Point) → EntersBody procs (head_action o id here (guarded g hit miss))
  head_enters (Some i) id here g hit miss = checked_enters i.free id i _
  head_enters None id here g hit miss = guarded_enters g hit miss

  havoc_enters : (o m : Option Column) (here after : Point) → EntersBody procs (havoc_action o m here after)
  havoc_enters None m here after = tt
  havoc_enters (Some c) None here after = tt
  havoc_enters (Some c) (Some d) here after = tt

  one_enters : (ps : List Point) → EntersBody procs (one_of ps)
  one_enters [] = tt
  one_enters (p ∷ []) = tt
  one_enters (p ∷ (q ∷ ps)) = tt

  unseen_enters : (o : Option Column) (i : Option TypedInvariant) (f : ℕ) (targets : List Column) (args : List TypedExpression) (here next : Point) → EntersBody procs (unseen_action o i f targets args here next)
  unseen_enters (Some c) i f targets args here next = tt
  unseen_enters None (Some i) f targets args here next = tt
  unseen_enters None None f targets args here next = tt

  called_enters : (f : ℕ) (q : TypedProcedure) (o : Option TypedBlock) (targets : List Column) (args : List TypedExpression) (done : ℕ) (here next : Point) → slice_get procs f ≡ Some q → q.body ≡ o →
      EntersBody procs (called_action f q o targets args done here next)
  called_enters f q None targets args done here next is has = unseen_enters _ _ f targets args here next
  called_enters f q (Some b) targets args done here next is has = record { procedure = q; body = b; is = is; has = has }

  call_enters : (o : Option TypedInvariant) (id f : ℕ) (q : TypedProcedure) (at : _) (targets : List Column) (args : List TypedExpression) (done : ℕ) (here next : Point) → slice_get procs f ≡ Some q →
      EntersBody procs (call_action o id f q at targets args done here next)
  call_enters (Some i) id f q at targets args done here next is = tt
  call_enters None id f q at targets args done here next is = called_enters f q q.body targets args done here next is refl

  calls_enter : (o : Option TypedProcedure) (id f : ℕ) (at : _) (targets : List Column) (args : List TypedExpression) (here next : Point) → slice_get procs f ≡ o → EntersBody procs (call_if_any o id f at targets args here next)
  calls_enter None id f at targets args here next is = tt
  calls_enter (Some q) id f at targets args here next is = call_enters _ _ f q at targets args _ here next is

  statement_enters : (body : TypedBlock) (first start : ℕ) (s : TypedStatement) (b : TypedBlock) (loop : Bool) (id place : ℕ) (under : List Todo) (here : Point) →
      EntersBody procs (statement_action procs body first start s b loop id place under here)
  statement_enters body first start (typed.Assert at e) b loop id place under here = tt
  statement_enters body first start (typed.Assume at e) b loop id place under here = tt
  statement_enters body first start (typed.Havoc at cs) b loop id place under here = havoc_enters _ _ here _
  statement_enters body first start (typed.Assign at cs es) b loop id place under here = tt
  statement_enters body first start (typed.Call at cs f es) b loop id place under here = calls_enter (slice_get procs f) id f at cs es here _ refl
  statement_enters body first start (typed.If at g x y) b loop id place under here = guarded_enters g _ _
  statement_enters body first start (typed.While at g is x) b loop id place under here = head_enters _ _ here g _ _
  statement_enters body first start (typed.Break at n) b loop id place under here = tt
  statement_enters body first start (typed.Goto at ks) b loop id place under here = one_enters (ways_to procs body first start ks)
  statement_enters body first start (typed.Return at) b loop id place under here = tt
  statement_enters body first start (typed.Label n) b loop id place under here = tt

  block_enters : (body : TypedBlock) (first start : ℕ) (b : TypedBlock) (loop : Bool) (id place : ℕ) (under : List Todo) (here : Point) → EntersBody procs (block_action procs body first start b loop id place under here)
  block_enters body first start typed.Empty loop id place under here = tt
  block_enters body first start (typed.Then s b) loop id place under here = statement_enters body first start s b loop id place under here

  body_enters : (body : TypedBlock) (first start : ℕ) (todo : List Todo) (here : Point) → EntersBody procs (body_action procs body first start todo here)
  body_enters body first start [] here = tt
  body_enters body first start (d ∷ ds) here = block_enters body first start d.rest d.of_loop d.id d.at ds here

  start_enters : (o m : Option TypedExpression) (here first : Point) → EntersBody procs (start_action o m here first)
  start_enters None m here first = tt
  start_enters (Some e) None here first = tt
  start_enters (Some e) (Some d) here first = tt

  entry_enters : (o m : Option TypedInvariant) (here : Point) → EntersBody procs (entry_action o m here)
  entry_enters None m here = tt
  entry_enters (Some i) None here = tt
  entry_enters (Some i) (Some j) here = tt

  exit_enters : (o : Option TypedInvariant) (id : ℕ) (here : Point) → EntersBody procs (exit_action o id here)
  exit_enters None id here = tt
  exit_enters (Some i) id here = checked_enters i.free id i _

stage_enters : (t : TypedProgram) (n : ℕ) (q : TypedProcedure) (b : TypedBlock) (s : Stage) (here : Point) → EntersBody t.procs (stage_action t n q b s here)
stage_enters t n q b Start here = start_enters t.procs _ _ here _
stage_enters t n q b Entry here = entry_enters t.procs _ _ here
stage_enters t n q b Body here = body_enters t.procs b _ _ here.todo here
stage_enters t n q b Exit here = exit_enters t.procs _ _ here

action_enters : (t : TypedProgram) (n : ℕ) (here : Point) → EntersBody t.procs (action_at t n here)
action_enters t n here = by (slice_get t.procs n)
  where
    of_body : (q : TypedProcedure) (o : Option TypedBlock) → EntersBody t.procs (body_or_leave t n q o here)
    of_body q None = tt
    of_body q (Some b) = stage_enters t n q b here.stage here

    by : (o : Option TypedProcedure) → EntersBody t.procs (procedure_action t n o here)
    by None = tt
    by (Some q) = of_body q q.body

-- ---- what a step makes of the open calls and the globals

length_put : (zs : List ℤ) (n : ℕ) (v : ℤ) → length (put zs n v) ≡ length zs
length_put [] n v = refl
length_put (z ∷ zs) zero v = refl
length_put (z ∷ zs) (suc n) v = ap suc (length_put zs n v)

length_puts : (zs : List ℤ) (ns : List ℕ) (vs : List ℤ) → length (all_put zs ns vs) ≡ length zs
length_puts zs [] vs = refl
length_puts zs (n ∷ ns) [] = refl
length_puts zs (n ∷ ns) (v ∷ vs) = length_puts (put zs n v) ns vs ∙ length_put zs n v

-- as many globals, and the same calls are open
record IsAlike (c d : Config) : Type 0 where
  count : length d.globals ≡ length c.globals
  below : d.below ≡ c.below

alike_self : (c : Config) → IsAlike c c
alike_self c = record { count = refl; below = refl }

written_alike : (c : Config) (x : Column) (v : ℤ) → IsAlike c (written c x v)
written_alike c (columns.Global n) v = record { count = length_put c.globals n v; below = refl }
written_alike c (columns.Old n) v = alike_self c
written_alike c (columns.Local n) v = record { count = refl; below = refl }

all_alike : (c : Config) (xs : List Column) (vs : List ℤ) → IsAlike c (all_written c xs vs)
all_alike c [] vs = alike_self c
all_alike c (x ∷ xs) [] = alike_self c
all_alike c (x ∷ xs) (v ∷ vs) =
    let a = written_alike c x v in
    let b = all_alike (written c x v) xs vs in
    record { count = b.count ∙ a.count; below = b.below ∙ a.below }

finished_alike : (t : TypedProgram) (c : Config) (f : ℕ) (targets : List Column) → IsAlike c (finished t c f targets)
finished_alike t c f targets =
    let ns : List ℕ = modifies_of (slice_get t.procs f) in
    let base : Config = record c { globals = all_put c.globals ns c.top.kept } in
    let b = all_alike base targets _ in
    record { count = b.count ∙ length_puts c.globals ns c.top.kept; below = b.below }

-- a call is entered
record IsEntering (t : TypedProgram) (c d : Config) : Type 0 where
  callee : ℕ
  args : List TypedExpression
  has : HasBody t.procs callee
  is : d ≡ entered t c callee (values (state_of c) args)

-- a call is left
record IsLeaving (c d : Config) : Type 0 where
  count : length d.globals ≡ length c.globals
  fewer : length c.below ≡ suc (length d.below)

module _ (t : TypedProgram) (c d : Config) (v : ℤ) where
  abbrev Kind : Type 0
  Kind = IsAlike c d ⊎ (IsEntering t c d ⊎ IsLeaving c d)

  to_alike : (e : Config) → IsAlike c e → e ≡ d → Kind
  to_alike e a same = inl (subst (IsAlike c) same a)

  same_went : (e : Config) → Went e ≡ Went d → e ≡ d
  same_went e h = cc

  pick_kind : (o : Option Point) → went_if o c ≡ Went d → Kind
  pick_kind None went = absurd (cc)
  pick_kind (Some p) went = to_alike (moved_to c p) (record { count = refl; below = refl }) (same_went (moved_to c p) went)

  left_kind : (fs : List Frame) → c.below ≡ fs → left t c fs ≡ Went d → Kind
  left_kind [] e went = absurd (cc)
  left_kind (f ∷ fs) e went =
      let base : Config = record { globals = c.globals; top = f; below = fs } in
      let a = all_alike base (targets_at f.point.todo) (results_left t c.top) in
      let r : Config = moved_to (all_written base (targets_at f.point.todo) (results_left t c.top)) (settled (past_first t.procs f.point.todo)) in
      let same : r ≡ d = same_went r went in
      inr (inr (subst (IsLeaving c) same (record { count = a.count; fewer = ap length e ∙ ap suc (ap length (sym a.below)) })))

  kind_of : (a : Action) → EntersBody t.procs a → act t c v a ≡ Went d → Kind
  kind_of (actions.Check id at e p) h went = to_alike (moved_to c p) (record { count = refl; below = refl }) (went_if_true (is_true (value (state_of c) e)) (moved_to c p) d (Failed id) (λ y. cc) went).same
  kind_of (actions.Suppose e p) h went = to_alike (moved_to c p) (record { count = refl; below = refl }) (went_if_true (is_true (value (state_of c) e)) (moved_to c p) d Blocked (λ y. cc) went).same
  kind_of (actions.Demand id at e args p) h went =
      to_alike (moved_to c p) (record { count = refl; below = refl }) (went_if_true (is_true (value (passed_state (state_of c) args) e)) (moved_to c p) d (Failed id) (λ y. cc) went).same
  kind_of (actions.Write cs es p) h went =
      let a = all_alike c cs (values (state_of c) es) in
      let r : Config = moved_to (all_written c cs (values (state_of c) es)) p in
      to_alike r (record { count = a.count; below = a.below }) (same_went r went)
  kind_of (actions.Guess x p) h went =
      let a = written_alike c x v in
      let r : Config = moved_to (written c x v) p in
      to_alike r (record { count = a.count; below = a.below }) (same_went r went)
  kind_of (actions.Test e hit miss) h went =
      let r : Config = moved_to c (if is_true (value (state_of c) e) then hit else miss) in
      to_alike r (record { count = refl; below = refl }) (same_went r went)
  kind_of (actions.Pick ways) h went = pick_kind (slice_get ways (unsigned_abs v)) went
  kind_of (actions.Jump p) h went = to_alike (moved_to c p) (record { count = refl; below = refl }) (same_went (moved_to c p) went)
  kind_of (actions.Enter f args) h went =
      let r : Config = entered t c f (values (state_of c) args) in
      inr (inl (record { callee = f; args = args; has = h; is = sym (same_went r went) }))
  kind_of (actions.Keep f args x p) h went =
      let same : IsAlike c d = subst (IsAlike c) (same_went _ went) (record { count = refl; below = refl }) in
      inl same
  kind_of (actions.Grant f args e p) h went = to_alike (kept_on c p) (record { count = refl; below = refl }) (went_if_true (is_true (value (granted_state t c f args) e)) (kept_on c p) d Blocked (λ y. cc) went).same
  kind_of (actions.Finish f args targets p) h went =
      let a = finished_alike t c f targets in
      let r : Config = moved_to (finished t c f targets) p in
      to_alike r (record { count = a.count; below = a.below }) (same_went r went)
  kind_of actions.Leave h went = left_kind c.below refl went

-- ---- steps and runs

-- a constant, a global or a local is chosen, or an action is done
record IsChoice (t : TypedProgram) (c d : Config) (v : ℤ) : Type 0 where
  alike : d.below ≡ c.below
  count : length d.globals ≤ length t.globals

record IsAction (t : TypedProgram) (c d : Config) (v : ℤ) : Type 0 where
  full : length t.globals ≤ length c.globals
  went : act t c v (action_at t c.top.proc c.top.point) ≡ Went d

next_parts : (t : TypedProgram) (c d : Config) (v : ℤ) → length c.globals ≤ length t.globals → next t c v ≡ Went d → IsChoice t c d v ⊎ IsAction t c d v
next_parts t c d v most went = by (nat_lt (length c.globals) (length t.globals)) (nat_lt (length c.top.locals) (length (locals_at t c.top.proc))) refl went
  where
    same_went : (e : Config) → Went e ≡ Went d → e ≡ d
    same_went e h = cc

    by : (a b : Bool) → nat_lt (length c.globals) (length t.globals) ≡ a →
        (if a then Went (with_global c v) else (if b then Went (with_local c v) else act t c v (action_at t c.top.proc c.top.point))) ≡ Went d → IsChoice t c d v ⊎ IsAction t c d v
    by true b less h =
        let l : length c.globals < length t.globals = ltb-true (length c.globals) (length t.globals) less in
        let many : length (c.globals ++ v ∷ []) ≡ length c.globals + 1 = length-append c.globals (v ∷ []) in
        inl (subst (λ (e : Config). IsChoice t c e v) (same_went (with_global c v) h) (record { alike = refl; count = omega arith }))
    by false true less h = inl (subst (λ (e : Config). IsChoice t c e v) (same_went (with_local c v) h) (record { alike = refl; count = most }))
    by false false less h = inr (record { full = ltb-false (length c.globals) (length t.globals) less; went = h })

step_parts : (t : TypedProgram) (c d : Config) (choice : Option ℤ) → length c.globals ≤ length t.globals → step t c choice ≡ Went d → IsChoice t c d (or_zero choice) ⊎ IsAction t c d (or_zero choice)
step_parts t c d choice most went = by (is_taken (need t c) choice) went
  where
    by : (b : Bool) → (if b then next t c (or_zero choice) else Refused) ≡ Went d → IsChoice t c d (or_zero choice) ⊎ IsAction t c d (or_zero choice)
    by true h = next_parts t c d (or_zero choice) most h
    by false h = absurd (cc)

-- no more globals are chosen than there are
step_count : (t : TypedProgram) (c d : Config) (choice : Option ℤ) → length c.globals ≤ length t.globals → step t c choice ≡ Went d → length d.globals ≤ length t.globals
step_count t c d choice most went = elim (step_parts t c d choice most went) [
  | inl k ↦ k.count
  | inr k ↦ (elim (kind_of t c d (or_zero choice) (action_at t c.top.proc c.top.point) (action_enters t c.top.proc c.top.point) k.went) [
    | inl a ↦ (let e : length d.globals ≡ length c.globals = a.count in omega arith)
    | inr (inl a) ↦ (let e : length d.globals ≡ length c.globals = ap (λ (x : Config). length x.globals) a.is in omega arith)
    | inr (inr a) ↦ (let e : length d.globals ≡ length c.globals = a.count in omega arith)
  ])
]

run_count : (t : TypedProgram) (choices : List (Option ℤ)) (c d : Config) → length c.globals ≤ length t.globals → run t c choices ≡ Went d → length d.globals ≤ length t.globals
run_count t [] c d most went = let same : c ≡ d = cc in subst (λ (x : Config). length x.globals ≤ length t.globals) same most
run_count t (choice ∷ choices) c d most went = by (step t c choice) refl (λ e m h. run_count t choices e d m h) went
  where
    by : (o : Outcome) → step t c choice ≡ o → ((e : Config) → length e.globals ≤ length t.globals → run t e choices ≡ Went d → length d.globals ≤ length t.globals) →
        then_goes_on o (λ e. run t e choices) ≡ Went d → length d.globals ≤ length t.globals
    by (Went e) o rest h = rest e (step_count t c e choice most o) h
    by Blocked o rest h = absurd (cc)
    by (Failed i) o rest h = absurd (cc)
    by Ended o rest h = absurd (cc)
    by Refused o rest h = absurd (cc)

-- ---- a procedure that was called begins

-- the same frame, with all its locals
record IsFilled (t : TypedProgram) (x c : Config) : Type 0 where
  globals : c.globals ≡ x.globals
  proc : c.top.proc ≡ x.top.proc
  entry : c.top.entry ≡ x.top.entry
  point : c.top.point ≡ x.top.point
  all : length c.top.locals ≡ length (locals_at t x.top.proc)

filled_more : (t : TypedProgram) (x c : Config) (v : ℤ) → IsFilled t (with_local x v) c → IsFilled t x c
filled_more t x c v f = record { globals = f.globals; proc = f.proc; entry = f.entry; point = f.point; all = f.all }

filling : (t : TypedProgram) (locals : List (Option ℤ)) (x c : Config) → length t.globals ≤ length x.globals → length x.top.locals + length locals ≡ length (locals_at t x.top.proc) → run t x locals ≡ Went c → IsFilled t x c
filling t [] x c full all went =
    let same : x ≡ c = cc in
    subst (IsFilled t x) same (record { globals = refl; proc = refl; entry = refl; point = refl; all = omega arith })
filling t (choice ∷ choices) x c full all went =
    by (is_taken (need t x) choice)
    (λ (h : run t (with_local x (or_zero choice)) choices ≡ Went c).
    (let many : length (x.top.locals ++ or_zero choice ∷ []) ≡ length x.top.locals + 1 = length-append x.top.locals (or_zero choice ∷ []) in
    filled_more t x c (or_zero choice) (filling t choices (with_local x (or_zero choice)) c full (omega arith) h)))
    went
  where
    less : length x.top.locals < length (locals_at t x.top.proc)
    less = omega arith

    by : (b : Bool) → (run t (with_local x (or_zero choice)) choices ≡ Went c → IsFilled t x c) → then_goes_on (if b then next t x (or_zero choice) else Refused) (λ e. run t e choices) ≡ Went c → IsFilled t x c
    by true rest h = rest (ap (λ (o : Outcome). then_goes_on o (λ e. run t e choices)) (sym (next_local t x (or_zero choice) full less)) ∙ h)
    by false rest h = absurd (cc)

ended_stage : (b : TypedBlock) (loop : Bool) (id at : ℕ) (under : List Todo) (after : Point) → (after.stage ≡ Start → ⊥) → (unless_ended b loop id at under after).stage ≡ Start → ⊥
ended_stage typed.Empty loop id at under after h e = h e
ended_stage (typed.Then (typed.Label n) b) loop id at under after h e = ended_stage b loop id at under after h e
ended_stage (typed.Then (typed.Assert a x) b) loop id at under after h e = let no : ⊥ = cc in no
ended_stage (typed.Then (typed.Assume a x) b) loop id at under after h e = let no : ⊥ = cc in no
ended_stage (typed.Then (typed.Havoc a cs) b) loop id at under after h e = let no : ⊥ = cc in no
ended_stage (typed.Then (typed.Assign a cs es) b) loop id at under after h e = let no : ⊥ = cc in no
ended_stage (typed.Then (typed.Call a cs f es) b) loop id at under after h e = let no : ⊥ = cc in no
ended_stage (typed.Then (typed.If a g x y) b) loop id at under after h e = let no : ⊥ = cc in no
ended_stage (typed.Then (typed.While a g is x) b) loop id at under after h e = let no : ⊥ = cc in no
ended_stage (typed.Then (typed.Break a n) b) loop id at under after h e = let no : ⊥ = cc in no
ended_stage (typed.Then (typed.Goto a ks) b) loop id at under after h e = let no : ⊥ = cc in no
ended_stage (typed.Then (typed.Return a) b) loop id at under after h e = let no : ⊥ = cc in no

settled_stage : (ts : List Todo) → (settled ts).stage ≡ Start → ⊥
settled_stage [] e = let no : ⊥ = cc in no
settled_stage (d ∷ ts) e = ended_stage d.rest d.of_loop d.id d.at ts (settled ts) (settled_stage ts) e

entry_stage : (is : List TypedInvariant) (d : Todo) → (entry_point is d).stage ≡ Start → ⊥
entry_stage [] d e = settled_stage (d ∷ []) e
entry_stage (i ∷ is) d e = let no : ⊥ = cc in no

-- a run comes there, behind the start, and the globals are those at the entry
pub record IsAtEntry (t : TypedProgram) (c : Config) : Type 0 where
  pub reached : IsReached t c
  pub behind : c.top.point.stage ≡ Start → ⊥
  pub entry : c.globals ≡ c.top.entry

module _ (t : TypedProgram) (valid : IsTrue (is_valid t)) (c : Config) (b : IsBegun t c) where
  caller_count : length b.caller.globals ≤ length t.globals
  caller_count = run_count t b.choices (start t) b.caller (omega arith) b.goes

  longer : (xs ys : List Frame) (f : Frame) → ys ≡ f ∷ xs → length ys ≡ suc (length xs)
  longer xs ys f e = ap length e

  record IsCalling : Type 0 where
    full : length t.globals ≤ length b.caller.globals
    call : IsEntering t b.caller b.callee

  calling : IsCalling
  calling =
      let deep : length b.callee.below ≡ suc (length b.caller.below) = longer b.caller.below b.callee.below b.caller.top b.deeper in
      elim (step_parts t b.caller b.callee None caller_count b.enters) [
        | inl k ↦ (let e : length b.callee.below ≡ length b.caller.below = ap length k.alike in absurd (omega arith))
        | inr k ↦ (elim (kind_of t b.caller b.callee (or_zero None) (action_at t b.caller.top.proc b.caller.top.point) (action_enters t b.caller.top.proc b.caller.top.point) k.went) [
          | inl a ↦ (let e : length b.callee.below ≡ length b.caller.below = ap length a.below in absurd (omega arith))
          | inr (inl a) ↦ record { full = k.full; call = a }
          | inr (inr a) ↦ (let e : length b.caller.below ≡ suc (length b.callee.below) = a.fewer in absurd (omega arith))
        ])
      ]

  begun_by : (k : IsCalling) → IsAtEntry t c
  begun_by k =
      let f : ℕ = k.call.callee in
      let h : HasBody t.procs f = k.call.has in
      let same_globals : b.callee.globals ≡ b.caller.globals = ap (λ (x : Config). x.globals) k.call.is in
      let many : length b.callee.globals ≡ length b.caller.globals = ap length same_globals in
      let full : length t.globals ≤ length b.caller.globals = k.full in
      let most : length b.caller.globals ≤ length t.globals = caller_count in
      let fill : IsFilled t b.callee c = filling t b.locals b.callee c (omega arith) b.all b.chosen in
      let proc : c.top.proc ≡ f = fill.proc ∙ ap (λ (x : Config). x.top.proc) k.call.is in
      let whole : Todo = record { rest = h.body; of_loop = false; id = first_assertion t.procs f; at = first_place t f + length (free_conditions h.procedure.specs) } in
      let first : point_of_call t f (slice_get t.procs f) ≡ first_point h.procedure h.body (first_assertion t.procs f) (first_place t f) =
      ap (point_of_call t f) h.is ∙ ap (point_of_procedure t f h.procedure) h.has in
      let point : c.top.point ≡ point_of_call t f (slice_get t.procs f) = fill.point ∙ ap (λ (x : Config). x.top.point) k.call.is in
      let place : IsPlaceIn (program_places t) (record { proc = f; point = point_of_call t f (slice_get t.procs f) }) =
      known_place t f (point_of_call t f (slice_get t.procs f))
      (record {
        procedure = h.procedure;
        body = h.body;
        is = h.is;
        has_body = h.has;
        stands = inr (subst (IsOneOf (points_of_body t f h.procedure h.body)) (sym first) (first_is_listed t f h.procedure h.body valid h.is h.has));
      }) in
      let all : length c.globals ≡ length b.callee.globals = ap length fill.globals in
      record {
        reached = record {
          choices = b.choices ++ (None ∷ b.locals);
          goes = run_cut t (start t) b.choices (None ∷ b.locals) ∙ ap (λ (o : Outcome). then_goes_on o (λ d. run t d (None ∷ b.locals))) b.goes ∙ ap (λ (o : Outcome). then_goes_on o (λ d. run t d b.locals)) b.enters ∙ b.chosen;
          whole = record {
            globals = omega arith;
            locals = fill.all ∙ ap (λ (n : ℕ). length (locals_at t n)) (sym fill.proc);
            at = subst (IsPlaceIn (program_places t)) (λ i. record { proc = sym proc i; point = sym point i }) place;
          };
        };
        behind = λ e. entry_stage (free_conditions h.procedure.specs) whole (sym (ap (λ (p : Point). p.stage) (point ∙ first)) ∙ e);
        entry = fill.globals ∙ same_globals ∙ sym (fill.entry ∙ ap (λ (x : Config). x.top.entry) k.call.is);
      }

  pub at_entry : IsAtEntry t c
  at_entry = begun_by calling

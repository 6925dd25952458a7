-- What the machine does at the points of a procedure that has a body, where all values are there.
use Rattle.std.proofs.Common.{◌≡◌, ℕ, zero, suc, ◌+◌, ℤ, pos, Bool, true, false, nat_lt, List, [], ◌∷◌, ◌++◌, map, take, drop, length, Option, None, Some, slice_get, refl, ap, sym, ◌∙◌, if◌then◌else◌, arith, ap₂, append_assoc, length-append, length-drop, lt-ltb, le-ltb, unwrap_or}
use Rattle.std.proofs.lemmas.Bool.{true≢false, false≢true}
use Rattle.std.proofs.lemmas.List.{length-map}
use Rattle.std.proofs.lemmas.Option.{none-some, same_Some, slice_get_within}
use Rattle.math_facts.specs.Optional.{or_zero}
use Rattle.boogie_tree.specs.declared.span.Span.{Span}
use Rattle.boogie_tree.specs.declared.tree.Ty.{Ty}
use Rattle.boogie_tree.specs.declared.tree.VarInfo.{VarInfo}
use Rattle.typed_tree.specs.TypedTree.{TypedExpression, TypedInvariant, TypedStatement, TypedBlock, TypedProcedure, TypedProgram}
use Rattle.typed_tree.specs.TypingRules.Counts.{block_assertions, plain_invariants}
use Rattle.boogie_run.specs.BoogiePoints.Points.{Todo, Start, Entry, Body, Exit, Point}
use Rattle.boogie_run.specs.BoogiePoints.Actions.{Action, next_part, checked, free_conditions, ensured_conditions, start_conditions, first_assertion, first_place, first_point, statement_action, entry_action, exit_action, start_action, stage_action, body_or_leave, procedure_action, action_at}
use Rattle.boogie_run.specs.Configurations.{Config}
use Rattle.boogie_run.specs.Needs.{Need, Nothing, need, need_of, need_of_type, need_of_action, is_taken, locals_at}
use Rattle.boogie_run.specs.Steps.{Went, Refused, moved_to, with_global, with_local, act, next, step}
use Rattle.boogie_run.specs.RunRules.Steps.{procedure_numbered}
use Rattle.boogie_run.specs.RunRules.Ties.Mirrors.{HasBody, HasLocals, IsFull}
use Rattle.boogie_run.specs.RunRules.Ties.Scenes.{Scene, SceneHolds, todo_at}
use Rattle.boogie_run.specs.RunRules.Ties.Stretches.{ChoicesFollow}
use Rattle.boogie_run.proofs.RunRules.Stretches.{takes_nothing}

-- ---- tests

if_true : {X : Type 0} (b : Bool) (x y : X) → b ≡ true → (if b then x else y) ≡ x
if_true true x y h = refl
if_true false x y h = absurd (false≢true h)

-- neither of two tests holds
past_both : {X : Type 0} (a b : Bool) (x y z : X) → a ≡ false → b ≡ false → (if a then x else (if b then y else z)) ≡ z
past_both true b x y z h k = absurd (true≢false h)
past_both false true x y z h k = absurd (true≢false k)
past_both false false x y z h k = refl

-- the first does not hold, the second one does
past_first_test : {X : Type 0} (a b : Bool) (x y z : X) → a ≡ false → b ≡ true → (if a then x else (if b then y else z)) ≡ y
past_first_test true b x y z h k = absurd (true≢false h)
past_first_test false true x y z h k = refl
past_first_test false false x y z h k = absurd (false≢true k)

-- ---- points and configurations

-- in front of part k of a statement
abbrev pub point_at : Scene → TypedStatement → TypedBlock → ℕ → Point
point_at sc s b k = record { stage = Body; todo = todo_at sc s b ∷ sc.under; part = k }

abbrev pub part_at : Scene → TypedStatement → TypedBlock → ℕ → Config
part_at sc s b k = moved_to sc.values (point_at sc s b k)

-- at a point, with these values kept
abbrev pub kept_at : Config → Point → List ℤ → Config
kept_at v p kept = record v { top = record v.top { point = p; kept = kept } }

abbrev pub exit_point : ℕ → Point
exit_point k = record { stage = Exit; todo = []; part = k }

abbrev pub entry_part : List Todo → ℕ → Point
entry_part todo k = record { stage = Entry; todo = todo; part = k }

abbrev pub start_point : ℕ → Point
start_point k = record { stage = Start; todo = []; part = k }

-- a configuration is as full as its values, wherever it stands
pub full_at : (t : TypedProgram) (v : Config) (p : Point) (kept : List ℤ) → IsFull t v → IsFull t (kept_at v p kept)
full_at t v p kept full = record { all_globals = full.all_globals; all_locals = full.all_locals; body = full.body }

-- ---- the action

-- what a procedure with a body does at a point
pub action_there : (t : TypedProgram) (n : ℕ) (h : HasBody t n) (here : Point) → action_at t n here ≡ stage_action t n h.procedure h.body here.stage here
action_there t n h here =
    ap (λ (o : Option TypedProcedure). procedure_action t n o here) h.there ∙ ap (λ (o : Option TypedBlock). body_or_leave t n h.procedure o here) h.has_body

-- a procedure that is there is the procedure of its number
pub procedure_there : (t : TypedProgram) (n : ℕ) (h : HasBody t n) → procedure_numbered t n ≡ h.procedure
procedure_there t n h =
    ap (λ (o : Option TypedProcedure). unwrap_or o (record { name = []; params = 0; results = 0; locals = []; modifies = []; specs = []; body = None })) h.there

-- where all values are there the step is the action
pub need_by : (t : TypedProgram) (c : Config) → IsFull t c → need t c ≡ need_of_action t c.top.proc (action_at t c.top.proc c.top.point)
need_by t c full =
    past_both (nat_lt (length c.globals) (length t.globals)) (nat_lt (length c.top.locals) (length (locals_at t c.top.proc)))
    (need_of (slice_get t.globals (length c.globals))) (need_of (slice_get (locals_at t c.top.proc) (length c.top.locals)))
    (need_of_action t c.top.proc (action_at t c.top.proc c.top.point)) full.all_globals full.all_locals

pub step_by : (t : TypedProgram) (c : Config) (choice : Option ℤ) → IsFull t c → is_taken (need_of_action t c.top.proc (action_at t c.top.proc c.top.point)) choice ≡ true →
    step t c choice ≡ act t c (or_zero choice) (action_at t c.top.proc c.top.point)
step_by t c choice full taken =
    if_true (is_taken (need t c) choice) (next t c (or_zero choice)) Refused (ap (λ (n : Need). is_taken n choice) (need_by t c full) ∙ taken)
    ∙ past_both (nat_lt (length c.globals) (length t.globals)) (nat_lt (length c.top.locals) (length (locals_at t c.top.proc)))
    (Went (with_global c (or_zero choice))) (Went (with_local c (or_zero choice)))
    (act t c (or_zero choice) (action_at t c.top.proc c.top.point)) full.all_globals full.all_locals

-- the same for a known action
pub need_by_action : (t : TypedProgram) (c : Config) (a : Action) → IsFull t c → action_at t c.top.proc c.top.point ≡ a → need t c ≡ need_of_action t c.top.proc a
need_by_action t c a full e = need_by t c full ∙ ap (need_of_action t c.top.proc) e

pub step_by_action : (t : TypedProgram) (c : Config) (a : Action) (choice : Option ℤ) → IsFull t c → action_at t c.top.proc c.top.point ≡ a →
    is_taken (need_of_action t c.top.proc a) choice ≡ true → step t c choice ≡ act t c (or_zero choice) a
step_by_action t c a choice full e taken =
    step_by t c choice full (ap (λ (x : Action). is_taken (need_of_action t c.top.proc x) choice) e ∙ taken) ∙ ap (act t c (or_zero choice)) e

-- an action that takes nothing
pub step_by_nothing : (t : TypedProgram) (c : Config) (a : Action) → IsFull t c → action_at t c.top.proc c.top.point ≡ a → need_of_action t c.top.proc a ≡ Nothing →
    step t c None ≡ act t c (pos 0) a
step_by_nothing t c a full e nothing = step_by_action t c a None full e (takes_nothing (need_of_action t c.top.proc a) nothing)

-- ---- in a scene

-- the action at part k of a statement
abbrev pub action_in : (t : TypedProgram) (sc : Scene) → HasBody t sc.values.top.proc → TypedStatement → TypedBlock → ℕ → Action
action_in t sc h s b k =
    statement_action t.procs h.body (first_assertion t.procs sc.values.top.proc) (first_place t sc.values.top.proc + length (free_conditions h.procedure.specs))
    s b sc.of_loop sc.id sc.place sc.under (point_at sc s b k)

-- with these values kept; none but at a call without body
pub scene_need : (t : TypedProgram) (sc : Scene) (s : TypedStatement) (b : TypedBlock) (k : ℕ) (kept : List ℤ) (h : SceneHolds t sc) →
    need t (kept_at sc.values (point_at sc s b k) kept) ≡ need_of_action t sc.values.top.proc (action_in t sc h.full.body s b k)
scene_need t sc s b k kept h =
    need_by_action t (kept_at sc.values (point_at sc s b k) kept) (action_in t sc h.full.body s b k) (full_at t sc.values (point_at sc s b k) kept h.full)
    (action_there t sc.values.top.proc h.full.body (point_at sc s b k))

pub scene_step : (t : TypedProgram) (sc : Scene) (s : TypedStatement) (b : TypedBlock) (k : ℕ) (kept : List ℤ) (choice : Option ℤ) (h : SceneHolds t sc) →
    is_taken (need_of_action t sc.values.top.proc (action_in t sc h.full.body s b k)) choice ≡ true →
    step t (kept_at sc.values (point_at sc s b k) kept) choice ≡ act t (kept_at sc.values (point_at sc s b k) kept) (or_zero choice) (action_in t sc h.full.body s b k)
scene_step t sc s b k kept choice h taken =
    step_by_action t (kept_at sc.values (point_at sc s b k) kept) (action_in t sc h.full.body s b k) choice (full_at t sc.values (point_at sc s b k) kept h.full)
    (action_there t sc.values.top.proc h.full.body (point_at sc s b k)) taken

-- the same with nothing kept, where the action takes nothing
pub part_need : (t : TypedProgram) (sc : Scene) (s : TypedStatement) (b : TypedBlock) (k : ℕ) (h : SceneHolds t sc) →
    need t (part_at sc s b k) ≡ need_of_action t sc.values.top.proc (action_in t sc h.full.body s b k)
part_need t sc s b k h = scene_need t sc s b k [] h

pub part_step : (t : TypedProgram) (sc : Scene) (s : TypedStatement) (b : TypedBlock) (k : ℕ) (h : SceneHolds t sc) →
    need_of_action t sc.values.top.proc (action_in t sc h.full.body s b k) ≡ Nothing →
    step t (part_at sc s b k) None ≡ act t (part_at sc s b k) (pos 0) (action_in t sc h.full.body s b k)
part_step t sc s b k h nothing =
    scene_step t sc s b k [] None h (takes_nothing (need_of_action t sc.values.top.proc (action_in t sc h.full.body s b k)) nothing)

-- ---- at the other stages

abbrev pub exit_action_at : (t : TypedProgram) (n : ℕ) → HasBody t n → ℕ → Action
exit_action_at t n h k =
    exit_action (slice_get (ensured_conditions h.procedure.specs) k)
    (first_assertion t.procs n + (block_assertions t.procs h.body + plain_invariants (take k (ensured_conditions h.procedure.specs)))) (exit_point k)

checked_needs_nothing : (t : TypedProgram) (n : ℕ) (free : Bool) (id : ℕ) (at : Span) (e : TypedExpression) (next : Point) → need_of_action t n (checked free id at e next) ≡ Nothing
checked_needs_nothing t n true id at e next = refl
checked_needs_nothing t n false id at e next = refl

exit_needs_nothing : (t : TypedProgram) (n : ℕ) (i : Option TypedInvariant) (id : ℕ) (here : Point) → need_of_action t n (exit_action i id here) ≡ Nothing
exit_needs_nothing t n None id here = refl
exit_needs_nothing t n (Some i) id here = checked_needs_nothing t n i.free id i.span i.cond (next_part here)

entry_needs_nothing : (t : TypedProgram) (n : ℕ) (i j : Option TypedInvariant) (here : Point) → need_of_action t n (entry_action i j here) ≡ Nothing
entry_needs_nothing t n None j here = refl
entry_needs_nothing t n (Some i) None here = refl
entry_needs_nothing t n (Some i) (Some j) here = refl

start_needs_nothing : (t : TypedProgram) (n : ℕ) (e d : Option TypedExpression) (here first : Point) → need_of_action t n (start_action e d here first) ≡ Nothing
start_needs_nothing t n None d here first = refl
start_needs_nothing t n (Some e) None here first = refl
start_needs_nothing t n (Some e) (Some d) here first = refl

exit_nothing : (t : TypedProgram) (n : ℕ) (h : HasBody t n) (k : ℕ) → need_of_action t n (exit_action_at t n h k) ≡ Nothing
exit_nothing t n h k =
    exit_needs_nothing t n (slice_get (ensured_conditions h.procedure.specs) k)
    (first_assertion t.procs n + (block_assertions t.procs h.body + plain_invariants (take k (ensured_conditions h.procedure.specs)))) (exit_point k)

pub exit_need : (t : TypedProgram) (v : Config) (k : ℕ) → IsFull t v → need t (moved_to v (exit_point k)) ≡ Nothing
exit_need t v k full =
    need_by_action t (moved_to v (exit_point k)) (exit_action_at t v.top.proc full.body k) (full_at t v (exit_point k) [] full)
    (action_there t v.top.proc full.body (exit_point k)) ∙ exit_nothing t v.top.proc full.body k

pub exit_step : (t : TypedProgram) (v : Config) (k : ℕ) (full : IsFull t v) →
    step t (moved_to v (exit_point k)) None ≡ act t (moved_to v (exit_point k)) (pos 0) (exit_action_at t v.top.proc full.body k)
exit_step t v k full =
    step_by_nothing t (moved_to v (exit_point k)) (exit_action_at t v.top.proc full.body k) (full_at t v (exit_point k) [] full)
    (action_there t v.top.proc full.body (exit_point k)) (exit_nothing t v.top.proc full.body k)

abbrev pub entry_action_at : (t : TypedProgram) (n : ℕ) → HasBody t n → List Todo → ℕ → Action
entry_action_at t n h todo k =
    entry_action (slice_get (free_conditions h.procedure.specs) k) (slice_get (free_conditions h.procedure.specs) (k + 1)) (entry_part todo k)

entry_nothing : (t : TypedProgram) (n : ℕ) (h : HasBody t n) (todo : List Todo) (k : ℕ) → need_of_action t n (entry_action_at t n h todo k) ≡ Nothing
entry_nothing t n h todo k =
    entry_needs_nothing t n (slice_get (free_conditions h.procedure.specs) k) (slice_get (free_conditions h.procedure.specs) (k + 1)) (entry_part todo k)

pub entry_need : (t : TypedProgram) (v : Config) (todo : List Todo) (k : ℕ) → IsFull t v → need t (moved_to v (entry_part todo k)) ≡ Nothing
entry_need t v todo k full =
    need_by_action t (moved_to v (entry_part todo k)) (entry_action_at t v.top.proc full.body todo k) (full_at t v (entry_part todo k) [] full)
    (action_there t v.top.proc full.body (entry_part todo k)) ∙ entry_nothing t v.top.proc full.body todo k

pub entry_step : (t : TypedProgram) (v : Config) (todo : List Todo) (k : ℕ) (full : IsFull t v) →
    step t (moved_to v (entry_part todo k)) None ≡ act t (moved_to v (entry_part todo k)) (pos 0) (entry_action_at t v.top.proc full.body todo k)
entry_step t v todo k full =
    step_by_nothing t (moved_to v (entry_part todo k)) (entry_action_at t v.top.proc full.body todo k) (full_at t v (entry_part todo k) [] full)
    (action_there t v.top.proc full.body (entry_part todo k)) (entry_nothing t v.top.proc full.body todo k)

abbrev pub start_action_at : (t : TypedProgram) (n : ℕ) → HasBody t n → ℕ → Action
start_action_at t n h k =
    start_action (slice_get (start_conditions t h.procedure) k) (slice_get (start_conditions t h.procedure) (k + 1)) (start_point k)
    (first_point h.procedure h.body (first_assertion t.procs n) (first_place t n))

start_nothing : (t : TypedProgram) (n : ℕ) (h : HasBody t n) (k : ℕ) → need_of_action t n (start_action_at t n h k) ≡ Nothing
start_nothing t n h k =
    start_needs_nothing t n (slice_get (start_conditions t h.procedure) k) (slice_get (start_conditions t h.procedure) (k + 1)) (start_point k)
    (first_point h.procedure h.body (first_assertion t.procs n) (first_place t n))

pub start_need : (t : TypedProgram) (v : Config) (k : ℕ) → IsFull t v → need t (moved_to v (start_point k)) ≡ Nothing
start_need t v k full =
    need_by_action t (moved_to v (start_point k)) (start_action_at t v.top.proc full.body k) (full_at t v (start_point k) [] full)
    (action_there t v.top.proc full.body (start_point k)) ∙ start_nothing t v.top.proc full.body k

pub start_step : (t : TypedProgram) (v : Config) (k : ℕ) (full : IsFull t v) →
    step t (moved_to v (start_point k)) None ≡ act t (moved_to v (start_point k)) (pos 0) (start_action_at t v.top.proc full.body k)
start_step t v k full =
    step_by_nothing t (moved_to v (start_point k)) (start_action_at t v.top.proc full.body k) (full_at t v (start_point k) [] full)
    (action_there t v.top.proc full.body (start_point k)) (start_nothing t v.top.proc full.body k)

-- ---- values that are chosen before the first action

-- with more constants and globals, which are those at the entry, too
abbrev pub with_globals : Config → List ℤ → Config
with_globals c vs = record c { globals = c.globals ++ vs; top = record c.top { entry = c.top.entry ++ vs } }

-- with more locals
abbrev pub with_locals : Config → List ℤ → Config
with_locals c vs = record c { top = record c.top { locals = c.top.locals ++ vs } }

-- a variable behind the first so many
got_mapped : (xs : List VarInfo) (b : ℕ) (ty : Ty) → slice_get (map (λ (v : VarInfo). v.ty) xs) b ≡ Some ty → (x : VarInfo) × (slice_get xs b ≡ Some x) × (x.ty ≡ ty)
got_mapped [] b ty h = absurd (none-some ty h)
got_mapped (x ∷ xs) zero ty h = (x, refl, same_Some x.ty ty h)
got_mapped (x ∷ xs) (suc b) ty h = got_mapped xs b ty h

got_behind : (xs : List VarInfo) (a b n : ℕ) (ty : Ty) → a + b ≡ n → slice_get (map (λ (v : VarInfo). v.ty) (drop a xs)) b ≡ Some ty →
    (x : VarInfo) × (slice_get xs n ≡ Some x) × (x.ty ≡ ty)
got_behind xs zero b n ty e h = let same : b ≡ n = omega arith in let g = got_mapped xs b ty h in (g.0, ap (slice_get xs) (sym same) ∙ g.1, g.2)
got_behind [] (suc a) b n ty e h = absurd (none-some ty h)
got_behind (x ∷ xs) (suc a) b zero ty e h = absurd (omega arith)
got_behind (x ∷ xs) (suc a) b (suc n) ty e h = got_behind xs a b n ty (omega arith) h

-- the constants and globals that are not there yet are chosen
pub globals_follow : (t : TypedProgram) (c : Config) → ChoicesFollow t (with_globals c) (map (λ (v : VarInfo). v.ty) (drop (length c.globals) t.globals))
globals_follow t c =
    λ (vs : List ℤ) (ty : Ty) (h : slice_get (map (λ (v : VarInfo). v.ty) (drop (length c.globals) t.globals)) (length vs) ≡ Some ty).
    let g = got_behind t.globals (length c.globals) (length vs) (length (c.globals ++ vs)) ty (sym (length-append c.globals vs)) h in
    let less : nat_lt (length (c.globals ++ vs)) (length t.globals) ≡ true = lt-ltb (length (c.globals ++ vs)) (length t.globals) (slice_get_within t.globals (length (c.globals ++ vs)) g.0 g.1) in
    let needs : need t (with_globals c vs) ≡ need_of_type ty =
    if_true (nat_lt (length (c.globals ++ vs)) (length t.globals)) (need_of (slice_get t.globals (length (c.globals ++ vs)))) _ less
    ∙ ap need_of g.1 ∙ ap need_of_type g.2 in (
      needs,
      λ (v : ℤ) (taken : is_taken (need_of_type ty) (Some v) ≡ true).
          if_true (is_taken (need t (with_globals c vs)) (Some v)) (next t (with_globals c vs) v) Refused (ap (λ (n : Need). is_taken n (Some v)) needs ∙ taken)
          ∙ if_true (nat_lt (length (c.globals ++ vs)) (length t.globals)) (Went (with_global (with_globals c vs) v)) _ less
          ∙ ap₂ (λ (gs es : List ℤ). Went (record c { globals = gs; top = record c.top { entry = es } })) (append_assoc c.globals vs (v ∷ [])) (append_assoc c.top.entry vs (v ∷ [])),
    )

-- the locals that are not there yet are chosen, where all globals are there
pub locals_follow : (t : TypedProgram) (c : Config) → nat_lt (length c.globals) (length t.globals) ≡ false →
    ChoicesFollow t (with_locals c) (map (λ (v : VarInfo). v.ty) (drop (length c.top.locals) (locals_at t c.top.proc)))
locals_follow t c full =
    λ (vs : List ℤ) (ty : Ty) (h : slice_get (map (λ (v : VarInfo). v.ty) (drop (length c.top.locals) (locals_at t c.top.proc))) (length vs) ≡ Some ty).
    let own : List VarInfo = locals_at t c.top.proc in
    let g = got_behind own (length c.top.locals) (length vs) (length (c.top.locals ++ vs)) ty (sym (length-append c.top.locals vs)) h in
    let less : nat_lt (length (c.top.locals ++ vs)) (length own) ≡ true = lt-ltb (length (c.top.locals ++ vs)) (length own) (slice_get_within own (length (c.top.locals ++ vs)) g.0 g.1) in
    let needs : need t (with_locals c vs) ≡ need_of_type ty =
    past_first_test (nat_lt (length c.globals) (length t.globals)) (nat_lt (length (c.top.locals ++ vs)) (length own)) _ (need_of (slice_get own (length (c.top.locals ++ vs)))) _ full less
    ∙ ap need_of g.1 ∙ ap need_of_type g.2 in (
      needs,
      λ (v : ℤ) (taken : is_taken (need_of_type ty) (Some v) ≡ true).
          if_true (is_taken (need t (with_locals c vs)) (Some v)) (next t (with_locals c vs) v) Refused (ap (λ (n : Need). is_taken n (Some v)) needs ∙ taken)
          ∙ past_first_test (nat_lt (length c.globals) (length t.globals)) (nat_lt (length (c.top.locals ++ vs)) (length own)) _ (Went (with_local (with_locals c vs) v)) _ full less
          ∙ ap (λ (ls : List ℤ). Went (record c { top = record c.top { locals = ls } })) (append_assoc c.top.locals vs (v ∷ [])),
    )

all_there : (xs : List VarInfo) (zs vs : List ℤ) → length (map (λ (v : VarInfo). v.ty) (drop (length zs) xs)) ≡ length vs → nat_lt (length (zs ++ vs)) (length xs) ≡ false
all_there xs zs vs h =
    let left : length (drop (length zs) xs) ≡ length vs = sym (length-map (drop (length zs) xs) (λ (v : VarInfo). v.ty)) ∙ h in
    le-ltb (length (zs ++ vs)) (length xs) (omega (arith, left, length-drop (length zs) xs, length-append zs vs))

-- nothing is left to choose
pub globals_chosen : (t : TypedProgram) (c : Config) (vs : List ℤ) → length (map (λ (v : VarInfo). v.ty) (drop (length c.globals) t.globals)) ≡ length vs →
    nat_lt (length (with_globals c vs).globals) (length t.globals) ≡ false
globals_chosen t c vs h = all_there t.globals c.globals vs h

pub locals_chosen : (t : TypedProgram) (c : Config) (vs : List ℤ) → length (map (λ (v : VarInfo). v.ty) (drop (length c.top.locals) (locals_at t c.top.proc))) ≡ length vs →
    HasLocals t c.top.proc (with_locals c vs).top.locals
locals_chosen t c vs h = all_there (locals_at t c.top.proc) c.top.locals vs h

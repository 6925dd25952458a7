-- A havoc, and a loop in front of its body: what the machine does in several steps the rules do in one.
use Rattle.std.proofs.Common.{◌≡◌, inl, inr, ℕ, zero, suc, ◌+◌, ◌<◌, ◌≤◌, ℤ, pos, Bool, true, false, not, nat_lt, List, [], ◌∷◌, ◌++◌, map, take, length, length-append, Option, None, Some, slice_get, unwrap_or, option_map, refl, ap, sym, ◌∙◌, subst, if◌then◌else◌, arith}
use Rattle.std.proofs.lemmas.Bool.Decides.{nat_tests}
use Rattle.std.proofs.lemmas.List.{length-map}
use Rattle.std.proofs.lemmas.Option.{none-some, same_Some, slice_get_cases, slice_get_past, slice_get_within}
use Rattle.boogie_tree.specs.declared.span.Span.{Span}
use Rattle.boogie_tree.specs.declared.tree.Ty.{Ty}
use Rattle.boogie_tree.specs.declared.tree.Ty.TheVariants as types
use Rattle.boogie_tree.specs.declared.tree.Column.{Column}
use Rattle.boogie_tree.specs.declared.tree.Column.TheVariants as columns
use Rattle.boogie_tree.specs.declared.tree.VarInfo.{VarInfo}
use Rattle.typed_tree.specs.TypedTree.{TypedExpression, TypedGuard, Any, Cond, TypedInvariant, TypedStatement, Havoc, While, TypedBlock, TypedProcedure, TypedProgram}
use Rattle.typed_tree.specs.Values.{value, value_is_zero}
use Rattle.typed_tree.specs.TypingRules.Counts.{plain_invariants}
use Rattle.boogie_run.specs.BoogiePoints.Points.{Todo, Point, settled, past}
use Rattle.boogie_run.specs.BoogiePoints.Actions.{Action, Guess, next_part, guarded, checked, head_action, havoc_action}
use Rattle.boogie_run.specs.Configurations.{Frame, Config, state_of}
use Rattle.boogie_run.specs.Needs.{Need, Nothing, need, need_of, need_of_type, need_of_column, need_of_action, is_taken, locals_at, locals_if_any}
use Rattle.boogie_run.specs.Steps.{Went, Blocked, Failed, written, all_written, moved_to, is_true, act, step}
use Rattle.boogie_run.specs.Runs.{run}
use Rattle.boogie_run.proofs.RunDefaults.Lengths.{same_all_written}
use Rattle.boogie_run.specs.RunRules.Moments.{Moment, seen, going_on, with_values, begun}
use Rattle.boogie_run.specs.RunRules.Conditions.{AreMet, Lets, AreOfTypes, type_numbered, column_type}
use Rattle.boogie_run.specs.RunRules.Steps.{procedure_numbered}
use Rattle.boogie_run.specs.RunRules.Ties.Mirrors.{WaitAll, Mirrors}
use Rattle.boogie_run.specs.RunRules.Ties.Scenes.{ReachesMirror, GoesOnWhere, Scene, SceneHolds, todo_at, config_at, here_at, moment_at, after_at, StatementGoes, StatementAgrees}
use Rattle.boogie_run.specs.RunRules.Ties.Stretches.{ConditionsFollow, ChoicesFollow, FailsFrom, Reaches}
use Rattle.boogie_run.proofs.RunRules.Stretches.{reaches_same, reaches_more, one_step, FirstStep, first_step, step_sound, more_bound, nothing_taken, below_taken, conditions_met, conditions_break, conditions_sound_most, choices_made, choices_sound_by, of_types_length}
use Rattle.boogie_run.proofs.RunRules.Scenes.{point_at, part_at, action_in, scene_step, part_need, part_step}
use Rattle.boogie_run.proofs.RunRules.Writing.{written_moment, same_full}

-- ---- conditions

-- a condition that is asserted, or assumed where it is free, is met, blocks or fails
checked_acts : (t : TypedProgram) (c : Config) (free : Bool) (n : ℕ) (at : Span) (e : TypedExpression) (q : Point) →
    act t c (pos 0) (checked free n at e q) ≡ (if is_true (value (state_of c) e) then Went (moved_to c q) else (if free then Blocked else Failed n))
checked_acts t c true n at e q = refl
checked_acts t c false n at e q = refl

-- nothing is chosen for it
checked_takes_nothing : (t : TypedProgram) (p : ℕ) (free : Bool) (n : ℕ) (at : Span) (e : TypedExpression) (q : Point) → need_of_action t p (checked free n at e q) ≡ Nothing
checked_takes_nothing t p true n at e q = refl
checked_takes_nothing t p false n at e q = refl

-- ---- guards

-- where a step is known the run goes on from there
went_on : (t : TypedProgram) (c d : Config) (n bound : ℕ) (f : FirstStep t c n bound) → step t c f.choice ≡ Went d → FailsFrom t d n bound
went_on t c d n bound f e =
    elim f.goes [
      | inl x ↦ absurd (let no : Failed n ≡ Went d = sym x ∙ e in cc)
      | inr y ↦ (let same : y.0 ≡ d = (let w : Went y.0 ≡ Went d = sym y.1 ∙ e in cc) in subst (λ (z : Config). FailsFrom t z n bound) same y.2)
    ]

module _ (t : TypedProgram) (sc : Scene) (s : TypedStatement) (b : TypedBlock) (k : ℕ) (h : SceneHolds t sc) (hit miss : Point) where
  -- at part k of the statement this guard stands, with its two ways
  abbrev At : TypedGuard → Type 0
  At g = action_in t sc h.full.body s b k ≡ guarded g hit miss

  -- behind the guard
  abbrev way : Bool → Config
  way goes_in = moved_to sc.values (if goes_in then hit else miss)

  -- a guard without condition: 0 is chosen to go in, 1 to go past
  any_steps : At Any → (goes_in : Bool) → step t (part_at sc s b k) (Some (pos (if goes_in then 0 else 1))) ≡ Went (way goes_in)
  any_steps a true =
      scene_step t sc s b k [] (Some (pos 0)) h (ap (λ (x : Action). is_taken (need_of_action t sc.values.top.proc x) (Some (pos 0))) a) ∙ ap (act t (part_at sc s b k) (pos 0)) a
  any_steps a false =
      scene_step t sc s b k [] (Some (pos 1)) h (ap (λ (x : Action). is_taken (need_of_action t sc.values.top.proc x) (Some (pos 1))) a) ∙ ap (act t (part_at sc s b k) (pos 1)) a

  -- a guard with a condition: its value says which way
  cond_steps : (e : TypedExpression) → At (Cond e) → step t (part_at sc s b k) None ≡ Went (way (not (value_is_zero (value (state_of sc.values) e))))
  cond_steps e a = part_step t sc s b k h (ap (need_of_action t sc.values.top.proc) a) ∙ ap (act t (part_at sc s b k) (pos 0)) a

  -- a way that the guard lets a run go is one that the machine goes
  guard_leads : (g : TypedGuard) → At g → (goes_in : Bool) → Lets (state_of sc.values) g goes_in → Reaches t (part_at sc s b k) (way goes_in)
  guard_leads Any a goes_in l = one_step t (part_at sc s b k) (way goes_in) (Some (pos (if goes_in then 0 else 1))) (any_steps a goes_in)
  guard_leads (Cond e) a true l =
      one_step t (part_at sc s b k) (way true) None (cond_steps e a ∙ ap (λ (z : Bool). Went (way (not z))) l)
  guard_leads (Cond e) a false l =
      one_step t (part_at sc s b k) (way false) None (cond_steps e a ∙ ap (λ (z : Bool). Went (way (not z))) l)

  -- the guard lets a run go the way that the value of its condition says
  lets_by : (e : TypedExpression) (z : Bool) → value_is_zero (value (state_of sc.values) e) ≡ z → Lets (state_of sc.values) (Cond e) (not z)
  lets_by e true l = l
  lets_by e false l = l

  -- the same of a guard without condition, by the number that is chosen
  picked : (n bound : ℕ) → At Any → (f : FirstStep t (part_at sc s b k) n bound) (m : ℕ) → f.choice ≡ Some (pos m) → m < 2 →
      (goes_in : Bool) × Lets (state_of sc.values) Any goes_in × FailsFrom t (way goes_in) n bound
  picked n bound a f zero e l = (true, tt, went_on t (part_at sc s b k) (way true) n bound f (ap (step t (part_at sc s b k)) e ∙ any_steps a true))
  picked n bound a f (suc zero) e l = (false, tt, went_on t (part_at sc s b k) (way false) n bound f (ap (step t (part_at sc s b k)) e ∙ any_steps a false))
  picked n bound a f (suc (suc m)) e l = absurd (omega arith)

  -- a way that the machine goes is one that the guard lets a run go
  guard_goes : (g : TypedGuard) (n bound : ℕ) → At g → FirstStep t (part_at sc s b k) n bound →
      (goes_in : Bool) × Lets (state_of sc.values) g goes_in × FailsFrom t (way goes_in) n bound
  guard_goes Any n bound a f =
      let chosen = below_taken 2 f.choice
      (sym (ap (λ (x : Need). is_taken x f.choice) (part_need t sc s b k h ∙ ap (need_of_action t sc.values.top.proc) a)) ∙ f.taken) in
      picked n bound a f chosen.0 chosen.1 chosen.2
  guard_goes (Cond e) n bound a f =
      let none : f.choice ≡ None = nothing_taken (need t (part_at sc s b k)) f.choice (part_need t sc s b k h ∙ ap (need_of_action t sc.values.top.proc) a) f.taken in
      let z : Bool = value_is_zero (value (state_of sc.values) e) in
      (not z, lets_by e z refl, went_on t (part_at sc s b k) (way (not z)) n bound f (ap (step t (part_at sc s b k)) none ∙ cond_steps e a))

-- ---- a loop in front of its body

module _ (t : TypedProgram) (sc : Scene) (at : Span) (g : TypedGuard) (is : List TypedInvariant) (x b : TypedBlock) (h : SceneHolds t sc) where
  abbrev loop : TypedStatement
  loop = While at g is x

  -- what is to do where the run goes in
  abbrev into : List Todo
  into = record { rest = x; of_loop = true; id = sc.id + plain_invariants is; at = sc.place + length is + 1 } ∷ todo_at sc loop b ∷ sc.under

  -- what is to do where it goes past
  abbrev beyond : List Todo
  beyond = past t.procs loop b sc.of_loop sc.id sc.place ∷ sc.under

  -- the invariants are next, one after another
  invariants_follow : ConditionsFollow t (part_at sc loop b) (seen (moment_at sc loop b)) is sc.id
  invariants_follow k i e =
      let a : action_in t sc h.full.body loop b k ≡ checked i.free (sc.id + plain_invariants (take k is)) i.span i.cond (point_at sc loop b (k + 1))
      = ap (λ (o : Option TypedInvariant). head_action o (sc.id + plain_invariants (take k is)) (point_at sc loop b k) (guarded g (settled into) (settled beyond))) e in
      let nothing : need_of_action t sc.values.top.proc (action_in t sc h.full.body loop b k) ≡ Nothing
      = ap (need_of_action t sc.values.top.proc) a
      ∙ checked_takes_nothing t sc.values.top.proc i.free (sc.id + plain_invariants (take k is)) i.span i.cond (point_at sc loop b (k + 1)) in (
        part_step t sc loop b k h nothing ∙ ap (act t (part_at sc loop b k) (pos 0)) a
            ∙ checked_acts t (part_at sc loop b k) i.free (sc.id + plain_invariants (take k is)) i.span i.cond (point_at sc loop b (k + 1)),
        λ choice taken. nothing_taken (need t (part_at sc loop b k)) choice (part_need t sc loop b k h ∙ nothing) taken,
      )

  -- behind them comes the guard
  guard_next : action_in t sc h.full.body loop b (length is) ≡ guarded g (settled into) (settled beyond)
  guard_next =
      ap (λ (o : Option TypedInvariant). head_action o (sc.id + plain_invariants (take (length is) is)) (point_at sc loop b (length is)) (guarded g (settled into) (settled beyond)))
      (slice_get_past is (length is) (omega arith))

  -- the moment behind the guard
  abbrev behind_guard : Bool → Moment
  behind_guard goes_in = going_on (moment_at sc loop b) (if goes_in then begun x true (sc.id + plain_invariants is) ∷ here_at sc loop b else after_at t sc loop b)

  -- the machine mirrors it
  loop_mirrors : (goes_in : Bool) → Mirrors t (moved_to sc.values (if goes_in then settled into else settled beyond)) (behind_guard goes_in)
  loop_mirrors true =
      record { values = sc.values; todo = into; targets = sc.targets; below = sc.below; config = refl; moment = refl; waits = h.waits; full = h.full }
  loop_mirrors false =
      record { values = sc.values; todo = beyond; targets = sc.targets; below = sc.below; config = refl; moment = refl; waits = h.waits; full = h.full }

  -- behind the invariants the machine goes one of the ways
  loop_goes : (n bound : ℕ) → AreMet (seen (moment_at sc loop b)) is → FailsFrom t (part_at sc loop b (length is)) n (suc bound) → GoesOnWhere t (StatementGoes t sc loop b) n bound
  loop_goes n bound met f =
      let r = guard_goes t sc loop b (length is) h (settled into) (settled beyond) g n bound guard_next (first_step t (part_at sc loop b (length is)) f.choices n bound f.most f.fails) in
      record {
        moment = behind_guard r.0;
        config = moved_to sc.values (if r.0 then settled into else settled beyond);
        leads = (met, r.0, r.1, refl);
        mirrors = loop_mirrors r.0;
        fails = r.2;
      }

  -- A loop: each invariant, and then the guard.
  pub while_agrees : StatementAgrees t sc loop b
  while_agrees =
      record {
        sound = λ n bound choices most f.
            elim (conditions_sound_most t (part_at sc loop b) (seen (moment_at sc loop b)) is sc.id choices n (suc bound) invariants_follow most f) [
              | inl broken ↦ inl broken
              | inr on ↦ inr (loop_goes n bound on.0 on.1)
            ];
        leads = λ d l.
            subst (ReachesMirror t (config_at sc loop b)) (sym l.3) (
              moved_to sc.values (if l.1 then settled into else settled beyond),
              reaches_more t (config_at sc loop b) (part_at sc loop b (length is)) (moved_to sc.values (if l.1 then settled into else settled beyond))
                  (conditions_met t (part_at sc loop b) (seen (moment_at sc loop b)) is sc.id invariants_follow l.0)
                  (guard_leads t sc loop b (length is) h (settled into) (settled beyond) g guard_next l.1 l.2),
              loop_mirrors l.1,
            );
        fails = λ n broken. conditions_break t (part_at sc loop b) (seen (moment_at sc loop b)) is sc.id n invariants_follow broken;
      }

-- ---- types and needs

-- of a variable, where there is one
option_need : (o : Option VarInfo) → need_of o ≡ need_of_type (unwrap_or (option_map (λ (v : VarInfo). v.ty) o) types.Int)
option_need None = refl
option_need (Some v) = refl

-- of a procedure, where there is one
option_locals : (o : Option TypedProcedure) (q : TypedProcedure) → q.locals ≡ [] → locals_if_any o ≡ (unwrap_or o q).locals
option_locals None q e = sym e
option_locals (Some p) q e = refl

-- what is chosen for a column is a value of its type
pub column_need : (t : TypedProgram) (p : ℕ) (c : Column) → need_of_column t.globals (locals_at t p) c ≡ need_of_type (column_type t.globals (procedure_numbered t p).locals c)
column_need t p (columns.Global n) = option_need (slice_get t.globals n)
column_need t p (columns.Old n) = option_need (slice_get t.globals n)
column_need t p (columns.Local n) =
    option_need (slice_get (locals_at t p) n) ∙ ap (λ (vs : List VarInfo). need_of_type (type_numbered vs n)) (option_locals (slice_get t.procs p) _ refl)

-- what a member of a mapped list is made of
pub made_of : {X Y : Type 0} (f : X → Y) (xs : List X) (k : ℕ) (y : Y) → slice_get (map f xs) k ≡ Some y → (x : X) × (slice_get xs k ≡ Some x) × (f x ≡ y)
made_of f [] k y h = absurd (none-some y h)
made_of f (x ∷ xs) zero y h = (x, refl, same_Some (f x) y h)
made_of f (x ∷ xs) (suc k) y h = made_of f xs k y h

-- ---- writes and moves

-- a column that is written behind a move
written_moved : (v : Config) (p : Point) (c : Column) (z : ℤ) → written (moved_to v p) c z ≡ moved_to (written v c z) p
written_moved v p (columns.Global n) z = refl
written_moved v p (columns.Old n) z = refl
written_moved v p (columns.Local n) z = refl

-- no values are written
nothing_written : (v : Config) (cs : List Column) → all_written v cs [] ≡ v
nothing_written v [] = refl
nothing_written v (c ∷ cs) = refl

-- one column more is written
written_more : (v : Config) (cs : List Column) (vs : List ℤ) (c : Column) (z : ℤ) → slice_get cs (length vs) ≡ Some c →
    written (all_written v cs vs) c z ≡ all_written v cs (vs ++ z ∷ [])
written_more v [] vs c z h = absurd (none-some c h)
written_more v (d ∷ cs) [] c z h = ap (λ (x : Column). written v x z) (sym (same_Some d c h)) ∙ sym (nothing_written (written v d z) cs)
written_more v (d ∷ cs) (y ∷ vs) c z h = written_more (written v d y) cs vs c z h

-- the same behind a move, and moved on
written_on : (v : Config) (p q : Point) (cs : List Column) (vs : List ℤ) (c : Column) (z : ℤ) → slice_get cs (length vs) ≡ Some c →
    moved_to (written (moved_to (all_written v cs vs) p) c z) q ≡ moved_to (all_written v cs (vs ++ z ∷ [])) q
written_on v p q cs vs c z h =
    ap (λ (w : Config). moved_to w q) (written_moved (all_written v cs vs) p c z) ∙ ap (λ (w : Config). moved_to w q) (written_more v cs vs c z h)

-- ---- a havoc

-- the test of an order
less : (a b : ℕ) → a < b → nat_lt a b ≡ true
less a b h = grind (arith, nat_tests)

not_less : (a b : ℕ) → b ≤ a → nat_lt a b ≡ false
not_less a b h = grind (arith, nat_tests)

-- the next variable gets a value, and behind the last one the run goes on
guess_next : (cs : List Column) (k : ℕ) (c : Column) (here after : Point) → slice_get cs k ≡ Some c →
    havoc_action (slice_get cs k) (slice_get cs (k + 1)) here after ≡ Guess c (if nat_lt (k + 1) (length cs) then next_part here else after)
guess_next cs k c here after e =
    ap (λ (o : Option Column). havoc_action o (slice_get cs (k + 1)) here after) e ∙
    elim (slice_get_cases cs (k + 1)).1 [
      | inl d ↦ ap (λ (o : Option Column). havoc_action (Some c) o here after) d.2 ∙ ap (λ (z : Bool). Guess c (if z then next_part here else after)) (sym (less (k + 1) (length cs) d.1))
      | inr p ↦ ap (λ (o : Option Column). havoc_action (Some c) o here after) p.1 ∙ ap (λ (z : Bool). Guess c (if z then next_part here else after)) (sym (not_less (k + 1) (length cs) p.0))
    ]

module _ (t : TypedProgram) (sc : Scene) (at : Span) (cs : List Column) (b : TypedBlock) (h : SceneHolds t sc) where
  abbrev havoc : TypedStatement
  havoc = Havoc at cs

  -- what is to do behind the havoc
  abbrev behind_havoc : List Todo
  behind_havoc = past t.procs havoc b sc.of_loop sc.id sc.place ∷ sc.under

  -- where so many variables have got a value
  abbrev stands : ℕ → Point
  stands k = if nat_lt k (length cs) then point_at sc havoc b k else settled behind_havoc

  -- where these values are chosen
  abbrev chosen : List ℤ → Config
  chosen vs = moved_to (all_written sc.values cs vs) (stands (length vs))

  -- the types of the variables
  abbrev column_types : List Ty
  column_types = map (column_type t.globals (procedure_numbered t sc.values.top.proc).locals) cs

  -- the scene with these values
  abbrev scene_with : List ℤ → Scene
  scene_with vs = record sc { values = all_written sc.values cs vs }

  -- what holds of the scene holds with these values, too
  holds_with : (vs : List ℤ) → SceneHolds t (scene_with vs)
  holds_with vs =
      record {
        waits = subst (λ (fs : List Frame). WaitAll t fs sc.targets sc.below) (sym (same_all_written sc.values cs vs).below) h.waits;
        full = same_full t sc.values (all_written sc.values cs vs) (same_all_written sc.values cs vs) h.full;
      }

  -- before the next variable
  stands_before : (vs : List ℤ) → length vs < length cs → chosen vs ≡ part_at (scene_with vs) havoc b (length vs)
  stands_before vs l =
      ap (λ (z : Bool). moved_to (all_written sc.values cs vs) (if z then point_at sc havoc b (length vs) else settled behind_havoc)) (less (length vs) (length cs) l)

  -- behind the last one
  stands_behind : (vs : List ℤ) → length cs ≤ length vs → chosen vs ≡ moved_to (all_written sc.values cs vs) (settled behind_havoc)
  stands_behind vs l =
      ap (λ (z : Bool). moved_to (all_written sc.values cs vs) (if z then point_at sc havoc b (length vs) else settled behind_havoc)) (not_less (length vs) (length cs) l)

  -- one value more
  one_more : (vs : List ℤ) (z : ℤ) → length (vs ++ z ∷ []) ≡ length vs + 1
  one_more vs z = omega (arith, length-append vs (z ∷ []))

  -- what the machine does with these values chosen
  action_with : (vs : List ℤ) (c : Column) → slice_get cs (length vs) ≡ Some c →
      action_in t (scene_with vs) (holds_with vs).full.body havoc b (length vs) ≡ Guess c (stands (length vs + 1))
  action_with vs c e = guess_next cs (length vs) c (point_at sc havoc b (length vs)) (settled behind_havoc) e

  -- what it takes then
  need_with : (vs : List ℤ) (c : Column) → slice_get cs (length vs) ≡ Some c →
      need t (part_at (scene_with vs) havoc b (length vs)) ≡ need_of_type (column_type t.globals (procedure_numbered t sc.values.top.proc).locals c)
  need_with vs c e =
      part_need t (scene_with vs) havoc b (length vs) (holds_with vs)
      ∙ ap (need_of_action t (all_written sc.values cs vs).top.proc) (action_with vs c e)
      ∙ ap (λ (p : ℕ). need_of_column t.globals (locals_at t p) c) (same_all_written sc.values cs vs).proc
      ∙ column_need t sc.values.top.proc c

  -- a value of the next variable is chosen next
  variables_follow : ChoicesFollow t chosen column_types
  variables_follow vs ty e =
      let m = made_of (column_type t.globals (procedure_numbered t sc.values.top.proc).locals) cs (length vs) ty e in
      let here : chosen vs ≡ part_at (scene_with vs) havoc b (length vs) = stands_before vs (slice_get_within cs (length vs) m.0 m.1) in
      let needs : need t (part_at (scene_with vs) havoc b (length vs)) ≡ need_of_type ty = need_with vs m.0 m.1 ∙ ap need_of_type m.2 in (
        ap (need t) here ∙ needs,
        λ v taken.
            ap (λ (d : Config). step t d (Some v)) here
            ∙ scene_step t (scene_with vs) havoc b (length vs) [] (Some v) (holds_with vs)
            (ap (λ (x : Need). is_taken x (Some v)) (sym (part_need t (scene_with vs) havoc b (length vs) (holds_with vs)) ∙ needs) ∙ taken)
            ∙ ap (act t (part_at (scene_with vs) havoc b (length vs)) v) (action_with vs m.0 m.1)
            ∙ ap (λ (d : Config). Went d) (written_on sc.values (point_at sc havoc b (length vs)) (stands (length vs + 1)) cs vs m.0 v m.1)
            ∙ ap (λ (k : ℕ). Went (moved_to (all_written sc.values cs (vs ++ v ∷ [])) (stands k))) (sym (one_more vs v)),
      )

  -- the moment behind the havoc
  abbrev behind_values : List ℤ → Moment
  behind_values vs = going_on (with_values (moment_at sc havoc b) cs vs) (after_at t sc havoc b)

  -- the machine mirrors it where every variable has its value
  havoc_mirrors : (vs : List ℤ) → AreOfTypes column_types vs → Mirrors t (chosen vs) (behind_values vs)
  havoc_mirrors vs typed =
      record {
        values = all_written sc.values cs vs;
        todo = behind_havoc;
        targets = sc.targets;
        below = sc.below;
        config = stands_behind vs (omega (arith, of_types_length column_types vs typed, length-map cs (column_type t.globals (procedure_numbered t sc.values.top.proc).locals)));
        moment = ap (λ (m : Moment). going_on m (after_at t sc havoc b)) (sym (written_moment sc.values sc.targets sc.below (here_at sc havoc b) cs vs));
        waits = (holds_with vs).waits;
        full = (holds_with vs).full;
      }

-- with no variable the run goes on
no_variable : (t : TypedProgram) (sc : Scene) (at : Span) (b : TypedBlock) → (h : SceneHolds t sc) →
    (need t (config_at sc (Havoc at []) b) ≡ Nothing) × (step t (config_at sc (Havoc at []) b) None ≡ Went (chosen t sc at [] b h []))
no_variable t sc at b h = (part_need t sc (Havoc at []) b 0 h, part_step t sc (Havoc at []) b 0 h refl)

-- with some variable the havoc begins where no value is chosen
begins_chosen : (t : TypedProgram) (sc : Scene) (at : Span) (c : Column) (cs : List Column) (b : TypedBlock) → (h : SceneHolds t sc) →
    config_at sc (Havoc at (c ∷ cs)) b ≡ chosen t sc at (c ∷ cs) b h []
begins_chosen t sc at c cs b h = sym (stands_before t sc at (c ∷ cs) b h [] (omega arith))

-- the machine comes to where no value is chosen
havoc_begins : (t : TypedProgram) (sc : Scene) (at : Span) (cs : List Column) (b : TypedBlock) → (h : SceneHolds t sc) → Reaches t (config_at sc (Havoc at cs) b) (chosen t sc at cs b h [])
havoc_begins t sc at [] b h = one_step t (config_at sc (Havoc at []) b) (chosen t sc at [] b h []) None (no_variable t sc at b h).1
havoc_begins t sc at (c ∷ cs) b h = reaches_same t (config_at sc (Havoc at (c ∷ cs)) b) (chosen t sc at (c ∷ cs) b h []) (begins_chosen t sc at c cs b h)

-- and a run that fails goes on from there, by at most one step for each variable and so many more
havoc_starts : (t : TypedProgram) (sc : Scene) (at : Span) (cs : List Column) (b : TypedBlock) → (h : SceneHolds t sc) → (n bound : ℕ) (choices : List (Option ℤ)) → length choices ≤ suc bound →
    run t (config_at sc (Havoc at cs) b) choices ≡ Failed n → FailsFrom t (chosen t sc at cs b h []) n (length cs + bound)
havoc_starts t sc at [] b h n bound choices most f =
    more_bound t (chosen t sc at [] b h []) n bound (0 + bound) (omega arith)
    (step_sound t (config_at sc (Havoc at []) b) (chosen t sc at [] b h []) choices n bound (no_variable t sc at b h).0 (no_variable t sc at b h).1 most f)
havoc_starts t sc at (c ∷ cs) b h n bound choices most f =
    record { choices = choices; most = omega arith; fails = subst (λ (d : Config). run t d choices ≡ Failed n) (begins_chosen t sc at c cs b h) f }

-- A havoc: one variable after another.
pub havoc_agrees : (t : TypedProgram) (sc : Scene) (at : Span) (cs : List Column) (b : TypedBlock) → SceneHolds t sc → StatementAgrees t sc (Havoc at cs) b
havoc_agrees t sc at cs b h =
    record {
      sound = λ n bound choices most f.
          let first = havoc_starts t sc at cs b h n bound choices most f in
          let r = choices_sound_by t (chosen t sc at cs b h) (column_types t sc at cs b h) first.choices n bound (variables_follow t sc at cs b h)
          (omega (arith, first.most, length-map cs (column_type t.globals (procedure_numbered t sc.values.top.proc).locals))) first.fails in
          inr (record { moment = behind_values t sc at cs b h r.0; config = chosen t sc at cs b h r.0; leads = (r.0, r.1, refl); mirrors = havoc_mirrors t sc at cs b h r.0 r.1; fails = r.2 });
      leads = λ d l.
          subst (ReachesMirror t (config_at sc (Havoc at cs) b)) (sym l.2) (
            chosen t sc at cs b h l.0,
            reaches_more t (config_at sc (Havoc at cs) b) (chosen t sc at cs b h []) (chosen t sc at cs b h l.0) (havoc_begins t sc at cs b h)
                (choices_made t (chosen t sc at cs b h) (column_types t sc at cs b h) l.0 (variables_follow t sc at cs b h) l.1),
            havoc_mirrors t sc at cs b h l.0 l.1,
          );
      fails = λ n broken. absurd broken;
    }

-- The machine and the rules agree about the start of a run: the constants and globals are chosen, then the locals, and then the conditions of the start are assumed.
use Rattle.std.proofs.Common.{◌≡◌, inl, inr, ⊎_elim, ℕ, ◌+◌, ℤ, pos, Bool, true, false, nat_lt, List, [], ◌∷◌, ◌++◌, map, take, drop, length, Option, None, Some, slice_get, option_map, unwrap_or, refl, ap, sym, ◌∙◌, subst, if◌then◌else◌, arith}
use Rattle.std.specs.List.{AllByRecursion}
use Rattle.std.proofs.lemmas.Option.{slice_get-map, same_Some}
use Rattle.std.proofs.lemmas.List.{length-map}
use Rattle.math_facts.specs.Optional.{or_zero}
use Rattle.boogie_tree.specs.declared.tree.VarInfo.{VarInfo}
use Rattle.typed_tree.specs.TypedTree.{TypedExpression, TypedInvariant, TypedBlock, TypedProcedure, TypedProgram}
use Rattle.typed_tree.specs.Values.{State}
use Rattle.typed_tree.specs.TypingRules.Counts.{one_if_plain, plain_invariants}
use Rattle.boogie_run.specs.BoogiePoints.Points.{Todo, Point, settled}
use Rattle.boogie_run.specs.BoogiePoints.Actions.{Suppose, Leave, plain_conditions, free_conditions, start_conditions, start_action, first_point, first_assertion, first_place, body_or_leave, procedure_action}
use Rattle.boogie_run.specs.BoogiePoints.Starts.{point_of_procedure, unless_none, start_point_of}
use Rattle.boogie_run.specs.Configurations.{Config, state_of}
use Rattle.boogie_run.specs.Needs.{need, is_taken, locals_if_any, locals_at}
use Rattle.boogie_run.specs.Steps.{Outcome, Failed, Ended, Refused, moved_to, start, act, next, step}
use Rattle.boogie_run.specs.Runs.{then_goes_on, run}
use Rattle.boogie_run.proofs.RunDefaults.Parts.{all_append}
use Rattle.boogie_run.specs.RunRules.Moments.{Moment, seen}
use Rattle.boogie_run.specs.RunRules.Conditions.{IsMet, AreMet, Breaks, AreOfTypes}
use Rattle.boogie_run.specs.RunRules.Steps.{procedure_numbered}
use Rattle.boogie_run.specs.RunRules.Runs.{Begins}
use Rattle.boogie_run.specs.RunRules.Ties.Mirrors.{pendings, moment_of, HasLocals, IsFull, Mirrors}
use Rattle.boogie_run.specs.RunRules.Ties.Stretches.{outcome_of, ConditionsFollow, FailsFrom, Reaches}
use Rattle.boogie_run.specs.RunRules.Ties.Scenes.{ReachesMirror, GoesOnWhere, StartAgrees}
use Rattle.boogie_run.proofs.RunRules.Stretches.{nothing_taken, reaches_more, reaches_same, of_types_length, conditions_met, conditions_sound_most, choices_made, choices_sound_most}
use Rattle.boogie_run.proofs.RunRules.Scenes.{start_point, start_action_at, start_need, start_step, with_globals, with_locals, globals_follow, locals_follow, globals_chosen, locals_chosen}
use Rattle.boogie_run.proofs.RunRules.Calls.{entry_at, drop_all, entry_point_is, entry_follow, free_never_break}

-- ---- conditions that are assumed

-- as a free condition
abbrev free_of : TypedExpression → TypedInvariant
free_of e = record { span = record { line = 0; col = 0 }; free = true; cond = e }

-- free conditions fail no assertion
frees_never_break : (s : State) (es : List TypedExpression) (id n : ℕ) → Breaks s (map free_of es) id n → ⊥
frees_never_break s [] id n h = h
frees_never_break s (e ∷ es) id n (inl h) = cc
frees_never_break s (e ∷ es) id n (inr h) = frees_never_break s es (id + one_if_plain (free_of e)) n h.1

-- what holds of each element's image holds of each element of the images, and the other way round
all_mapped : {X Y : Type 0} (P : Y → Type 0) (f : X → Y) (xs : List X) → AllByRecursion (λ x. P (f x)) xs → AllByRecursion P (map f xs)
all_mapped P f [] h = tt
all_mapped P f (x ∷ xs) h = (h.0, all_mapped P f xs h.1)

all_unmapped : {X Y : Type 0} (P : Y → Type 0) (f : X → Y) (xs : List X) → AllByRecursion P (map f xs) → AllByRecursion (λ x. P (f x)) xs
all_unmapped P f [] h = tt
all_unmapped P f (x ∷ xs) h = (h.0, all_unmapped P f xs h.1)

-- what holds of all elements of two lists holds of those of each
all_split : {X : Type 0} (P : X → Type 0) (xs ys : List X) → AllByRecursion P (xs ++ ys) → AllByRecursion P xs × AllByRecursion P ys
all_split P [] ys h = (tt, h)
all_split P (x ∷ xs) ys h = let r = all_split P xs ys h.1 in ((h.0, r.0), r.1)

-- the conditions of the start are the axioms and the plain requires
start_met : (s : State) (t : TypedProgram) (q : TypedProcedure) → AllByRecursion (IsMet s) t.axioms → AreMet s (plain_conditions q.specs) →
    AreMet s (map free_of (start_conditions t q))
start_met s t q axioms plain =
    all_mapped (λ (i : TypedInvariant). IsMet s i.cond) free_of (start_conditions t q)
    (all_append (IsMet s) t.axioms (map (λ i. i.cond) (plain_conditions q.specs)) axioms (all_mapped (IsMet s) (λ (i : TypedInvariant). i.cond) (plain_conditions q.specs) plain))

met_start : (s : State) (t : TypedProgram) (q : TypedProcedure) → AreMet s (map free_of (start_conditions t q)) →
    AllByRecursion (IsMet s) t.axioms × AreMet s (plain_conditions q.specs)
met_start s t q h =
    let parts = all_split (IsMet s) t.axioms (map (λ i. i.cond) (plain_conditions q.specs)) (all_unmapped (λ (i : TypedInvariant). IsMet s i.cond) free_of (start_conditions t q) h) in
    (parts.0, all_unmapped (IsMet s) (λ (i : TypedInvariant). i.cond) (plain_conditions q.specs) parts.1)

-- an element past the end
nothing_past : {X : Type 0} (xs : List X) → slice_get xs (length xs) ≡ None
nothing_past [] = refl
nothing_past (x ∷ xs) = nothing_past xs

-- ---- the procedure at the entry

-- the one that stands for a procedure that is not there
abbrev empty : TypedProcedure
empty = record { name = []; params = 0; results = 0; locals = []; modifies = []; specs = []; body = None }

-- the locals of a procedure, none where it is not there
locals_are : (o : Option TypedProcedure) → locals_if_any o ≡ (unwrap_or o empty).locals
locals_are None = refl
locals_are (Some q) = refl

-- a procedure with a body is there
there_if : (o : Option TypedProcedure) (b : TypedBlock) → (unwrap_or o empty).body ≡ Some b → o ≡ Some (unwrap_or o empty)
there_if None b e = cc
there_if (Some q) b e = refl

-- ---- the points of the start

-- in front of condition number k of the start; behind the last one the first point of the procedure
abbrev start_at : Option TypedExpression → ℕ → Point → Point
start_at None k first = first
start_at (Some e) k first = start_point k

-- the first point of the start
first_is : (es : List TypedExpression) (first : Point) → unless_none es first ≡ start_at (slice_get es 0) 0 first
first_is [] first = refl
first_is (e ∷ es) first = refl

-- what is assumed at condition number k, and where it leads
start_supposes : (e : TypedExpression) (more : Option TypedExpression) (k : ℕ) (first : Point) →
    start_action (Some e) more (start_point k) first ≡ Suppose e (start_at more (k + 1) first)
start_supposes e None k first = refl
start_supposes e (Some d) k first = refl

-- without a body the run ends at once
leaves : (t : TypedProgram) (n : ℕ) (o : Option TypedProcedure) (here : Point) → (unwrap_or o empty).body ≡ None → procedure_action t n o here ≡ Leave
leaves t n None here h = refl
leaves t n (Some q) here h = ap (λ (b : Option TypedBlock). body_or_leave t n q b here) h

-- a step that ends the run, if it is taken, fails nothing
no_failure : (b : Bool) (o : Outcome) (rest : Config → Outcome) (n : ℕ) → o ≡ Ended → then_goes_on (if b then o else Refused) rest ≡ Failed n → ⊥
no_failure true o rest n e h = let f : Ended ≡ Failed n = subst (λ (p : Outcome). then_goes_on p rest ≡ Failed n) e h in cc
no_failure false o rest n e h = cc

-- what reaches, between configurations that are the same
reaches_between : (t : TypedProgram) (c a b d : Config) → c ≡ a → Reaches t a b → b ≡ d → Reaches t c d
reaches_between t c a b d e r f = reaches_more t c a d (reaches_same t c a e) (reaches_more t a b d r (reaches_same t b d f))

module _ (t : TypedProgram) where
  -- the values of constants and globals, and of locals, are chosen
  abbrev chosen : List ℤ → List ℤ → Config
  chosen gs ls =
      record {
        globals = gs;
        top = record { proc = t.entry; locals = ls; entry = gs; point = start_point_of t (slice_get t.procs t.entry); kept = [] };
        below = [];
      }

  -- the locals of the entry
  entry_locals : locals_at t t.entry ≡ (procedure_numbered t t.entry).locals
  entry_locals = locals_are (slice_get t.procs t.entry)

  -- an entry with a body is there
  entry_there : (b : TypedBlock) → (procedure_numbered t t.entry).body ≡ Some b → slice_get t.procs t.entry ≡ Some (procedure_numbered t t.entry)
  entry_there b h = there_if (slice_get t.procs t.entry) b h

  -- each constant and global has a value then
  all_globals : (gs : List ℤ) → AreOfTypes (map (λ (v : VarInfo). v.ty) t.globals) gs → nat_lt (length gs) (length t.globals) ≡ false
  all_globals gs h = globals_chosen t (start t) gs (of_types_length (map (λ (v : VarInfo). v.ty) t.globals) gs h)

  -- each local has a value then
  all_locals : (gs ls : List ℤ) → AreOfTypes (map (λ (v : VarInfo). v.ty) (locals_at t t.entry)) ls → HasLocals t t.entry ls
  all_locals gs ls h = locals_chosen t (chosen gs []) ls (of_types_length (map (λ (v : VarInfo). v.ty) (locals_at t t.entry)) ls h)

  -- ---- behind the choices, where the entry has a body

  module _ (body : TypedBlock) (has : (procedure_numbered t t.entry).body ≡ Some body) (gs ls : List ℤ)
      (typed : AreOfTypes (map (λ (v : VarInfo). v.ty) t.globals) gs) (locals_typed : AreOfTypes (map (λ (v : VarInfo). v.ty) (locals_at t t.entry)) ls) where
    -- the values that are chosen
    abbrev values : Config
    values = chosen gs ls

    -- nothing more is to be chosen
    abbrev full : IsFull t values
    full =
        record {
          all_globals = all_globals gs typed;
          all_locals = all_locals gs ls locals_typed;
          body = record { procedure = procedure_numbered t t.entry; body = body; there = entry_there body has; has_body = has };
        }

    -- the conditions that are assumed first
    abbrev conditions : List TypedExpression
    conditions = start_conditions t (procedure_numbered t t.entry)

    -- the first point behind them
    abbrev first : Point
    first = first_point (procedure_numbered t t.entry) body (first_assertion t.procs t.entry) (first_place t t.entry)

    -- the body, which is to do behind the free requires
    abbrev todo : Todo
    todo =
        record {
          rest = body;
          of_loop = false;
          id = first_assertion t.procs t.entry;
          at = first_place t t.entry + length (free_conditions (procedure_numbered t t.entry).specs);
        }

    -- the moment at which the run begins
    abbrev moment : Moment
    moment = moment_of values [] [] (pendings (todo ∷ []))

    -- ---- the axioms and the plain requires

    -- in front of condition number k
    abbrev start_at_part : ℕ → Config
    start_at_part k = moved_to values (start_at (slice_get conditions k) k first)

    -- a condition of the start is assumed, in one step that takes nothing
    assumes : (k id : ℕ) (e : TypedExpression) → slice_get conditions k ≡ Some e →
        (step t (start_at_part k) None ≡ outcome_of (state_of values) (free_of e) id (start_at_part (k + 1)))
        × ((choice : Option ℤ) → is_taken (need t (start_at_part k)) choice ≡ true → choice ≡ None)
    assumes k id e h =
        let at : Config = moved_to values (start_point k) in
        let same : start_at_part k ≡ at = ap (λ (o : Option TypedExpression). moved_to values (start_at o k first)) h in
        let does : start_action_at t t.entry full.body k ≡ Suppose e (start_at (slice_get conditions (k + 1)) (k + 1) first) =
        ap (λ (o : Option TypedExpression). start_action o (slice_get conditions (k + 1)) (start_point k) first) h ∙ start_supposes e (slice_get conditions (k + 1)) k first in (
          ap (λ (c : Config). step t c None) same ∙ start_step t values k full ∙ ap (act t at (pos 0)) does,
          λ choice taken. nothing_taken (need t (start_at_part k)) choice (ap (need t) same ∙ start_need t values k full) taken,
        )

    -- the same for a condition that may be there
    assumes_any : (k id : ℕ) (i : TypedInvariant) (o : Option TypedExpression) → slice_get conditions k ≡ o → option_map free_of o ≡ Some i →
        (step t (start_at_part k) None ≡ outcome_of (state_of values) i id (start_at_part (k + 1)))
        × ((choice : Option ℤ) → is_taken (need t (start_at_part k)) choice ≡ true → choice ≡ None)
    assumes_any k id i None h e = absurd (cc)
    assumes_any k id i (Some c) h e =
        let r = assumes k id c h in
        (subst (λ (j : TypedInvariant). step t (start_at_part k) None ≡ outcome_of (state_of values) j id (start_at_part (k + 1))) (same_Some (free_of c) i e) r.0, r.1)

    -- the conditions of the start are assumed one after another
    start_follow : ConditionsFollow t (λ k. moved_to values (start_at (slice_get conditions k) k first)) (state_of values) (map free_of conditions) 0
    start_follow k i e = assumes_any k (0 + plain_invariants (take k (map free_of conditions))) i (slice_get conditions k) refl (sym (slice_get-map free_of conditions k) ∙ e)

    -- the first point
    starts_there : values ≡ moved_to values (start_at (slice_get conditions 0) 0 first)
    starts_there =
        ap (λ (p : Point). record { globals = gs; top = record { proc = t.entry; locals = ls; entry = gs; point = p; kept = [] }; below = [] })
        (ap (start_point_of t) (entry_there body has)
        ∙ ap (λ (o : Option TypedBlock). unless_none conditions (point_of_procedure t t.entry (procedure_numbered t t.entry) o)) has ∙ first_is conditions first)

    -- behind the last of them
    then_enters : moved_to values (start_at (slice_get conditions (length (map free_of conditions))) (length (map free_of conditions)) first)
        ≡ moved_to values (entry_at (drop 0 (free_conditions (procedure_numbered t t.entry).specs)) 0 todo)
    then_enters =
        ap (λ (o : Option TypedExpression). moved_to values (start_at o (length (map free_of conditions)) first))
        (ap (slice_get conditions) (length-map conditions free_of) ∙ nothing_past conditions)
        ∙ ap (moved_to values) (entry_point_is (free_conditions (procedure_numbered t t.entry).specs) todo)

    -- behind the free requires
    then_stands : moved_to values (entry_at (drop (length (free_conditions (procedure_numbered t t.entry).specs)) (free_conditions (procedure_numbered t t.entry).specs)) (length (free_conditions (procedure_numbered t t.entry).specs)) todo)
        ≡ moved_to values (settled (todo ∷ []))
    then_stands =
        ap (λ (is : List TypedInvariant). moved_to values (entry_at is (length (free_conditions (procedure_numbered t t.entry).specs)) todo))
        (drop_all (free_conditions (procedure_numbered t t.entry).specs))

    -- the machine stands at the body then
    mirrored : Mirrors t (moved_to values (settled (todo ∷ []))) moment
    mirrored = record { values = values; todo = todo ∷ []; targets = []; below = []; config = refl; moment = refl; waits = tt; full = full }

    -- ---- from the rules to the machine

    -- the conditions of the start are met
    assumed : AllByRecursion (IsMet (state_of values)) t.axioms → AreMet (state_of values) (plain_conditions (procedure_numbered t t.entry).specs) →
        Reaches t values (moved_to values (entry_at (drop 0 (free_conditions (procedure_numbered t t.entry).specs)) 0 todo))
    assumed axioms plain =
        reaches_between t values _ _ _ starts_there
        (conditions_met t (λ k. moved_to values (start_at (slice_get conditions k) k first)) (state_of values) (map free_of conditions) 0 start_follow
        (start_met (state_of values) t (procedure_numbered t t.entry) axioms plain)) then_enters

    -- the free requires are met
    entered : AreMet (state_of values) (free_conditions (procedure_numbered t t.entry).specs) →
        Reaches t (moved_to values (entry_at (drop 0 (free_conditions (procedure_numbered t t.entry).specs)) 0 todo)) (moved_to values (settled (todo ∷ [])))
    entered free =
        let is : List TypedInvariant = free_conditions (procedure_numbered t t.entry).specs in
        reaches_between t _ _ _ _ refl (conditions_met t (λ k. moved_to values (entry_at (drop k is) k todo)) (state_of values) is 0 (entry_follow t values full todo 0) free) then_stands

    -- behind the choices the machine comes to the body
    starts_leads : AllByRecursion (IsMet (state_of values)) t.axioms → AreMet (state_of values) (plain_conditions (procedure_numbered t t.entry).specs) →
        AreMet (state_of values) (free_conditions (procedure_numbered t t.entry).specs) → Reaches t values (moved_to values (settled (todo ∷ [])))
    starts_leads axioms plain free = reaches_more t values _ (moved_to values (settled (todo ∷ []))) (assumed axioms plain) (entered free)

    -- ---- from the machine to the rules

    -- a run begins by the rules
    begins : AreMet (state_of values) (map free_of conditions) → AreMet (state_of values) (free_conditions (procedure_numbered t t.entry).specs) → Begins t moment
    begins met free =
        let parts = met_start (state_of values) t (procedure_numbered t t.entry) met in
        record {
          body = body;
          has_body = has;
          globals = typed;
          locals = subst (λ (vs : List VarInfo). AreOfTypes (map (λ (v : VarInfo). v.ty) vs) ls) entry_locals locals_typed;
          top = refl;
          below = refl;
          axioms = parts.0;
          requires = parts.1;
          free_requires = free;
        }

    -- the machine assumes the free requires
    enters_sound : (n bound : ℕ) → AreMet (state_of values) (map free_of conditions) →
        FailsFrom t (moved_to values (entry_at (drop 0 (free_conditions (procedure_numbered t t.entry).specs)) 0 todo)) n bound → GoesOnWhere t (Begins t) n bound
    enters_sound n bound met f =
        let is : List TypedInvariant = free_conditions (procedure_numbered t t.entry).specs in
        ⊎_elim (λ b. absurd (free_never_break (state_of values) (procedure_numbered t t.entry).specs 0 n b))
        (λ r.
        record {
          moment = moment;
          config = moved_to values (settled (todo ∷ []));
          leads = begins met r.0;
          mirrors = mirrored;
          fails = subst (λ (c : Config). FailsFrom t c n bound) then_stands r.1;
        })
        (conditions_sound_most t (λ k. moved_to values (entry_at (drop k is) k todo)) (state_of values) is 0 f.choices n bound (entry_follow t values full todo 0) f.most f.fails)

    -- the machine assumes the conditions of the start
    starts_sound : (n bound : ℕ) → FailsFrom t values n bound → GoesOnWhere t (Begins t) n bound
    starts_sound n bound f =
        ⊎_elim (λ b. absurd (frees_never_break (state_of values) conditions 0 n b))
        (λ r. enters_sound n bound r.0 (subst (λ (c : Config). FailsFrom t c n bound) then_enters r.1))
        (conditions_sound_most t (λ k. moved_to values (start_at (slice_get conditions k) k first)) (state_of values) (map free_of conditions) 0 f.choices n bound start_follow f.most
        (subst (λ (c : Config). run t c f.choices ≡ Failed n) starts_there f.fails))

  -- ---- behind the choices, where the entry has no body

  module _ (none : (procedure_numbered t t.entry).body ≡ None) (gs ls : List ℤ) (typed : AreOfTypes (map (λ (v : VarInfo). v.ty) t.globals) gs)
      (locals_typed : AreOfTypes (map (λ (v : VarInfo). v.ty) (locals_at t t.entry)) ls) where
    -- the run ends
    ends : (v : ℤ) → next t (chosen gs ls) v ≡ Ended
    ends v =
        rw (all_globals gs typed, all_locals gs ls locals_typed)
        (ap (act t (chosen gs ls) v)
        (leaves t t.entry (slice_get t.procs t.entry)
        (start_point_of t (slice_get t.procs t.entry)) none))

    -- no run fails
    never_fails : (n : ℕ) (choices : List (Option ℤ)) → run t (chosen gs ls) choices ≡ Failed n → ⊥
    never_fails n [] h = cc
    never_fails n (choice ∷ choices) h =
        no_failure (is_taken (need t (chosen gs ls)) choice) (next t (chosen gs ls) (or_zero choice)) (λ d. run t d choices) n (ends (or_zero choice)) h

  -- ---- the start

  -- by whether the entry has a body
  sound_by : (o : Option TypedBlock) → (procedure_numbered t t.entry).body ≡ o → (gs ls : List ℤ) → AreOfTypes (map (λ (v : VarInfo). v.ty) t.globals) gs →
      AreOfTypes (map (λ (v : VarInfo). v.ty) (locals_at t t.entry)) ls → (n bound : ℕ) → FailsFrom t (chosen gs ls) n bound → GoesOnWhere t (Begins t) n bound
  sound_by None has gs ls typed locals_typed n bound f = absurd (never_fails has gs ls typed locals_typed n f.choices f.fails)
  sound_by (Some body) has gs ls typed locals_typed n bound f = starts_sound body has gs ls typed locals_typed n bound f

  -- a run that fails begins by the rules
  start_sound : (n : ℕ) (choices : List (Option ℤ)) → run t (start t) choices ≡ Failed n → GoesOnWhere t (Begins t) n (length choices)
  start_sound n choices h =
      let g : (gs : List ℤ) × AreOfTypes (map (λ (v : VarInfo). v.ty) t.globals) gs × FailsFrom t (chosen gs []) n (length choices) =
      choices_sound_most t (with_globals (start t)) (map (λ (v : VarInfo). v.ty) t.globals) choices n (length choices) (globals_follow t (start t)) (omega arith) h in
      let l : (ls : List ℤ) × AreOfTypes (map (λ (v : VarInfo). v.ty) (locals_at t t.entry)) ls × FailsFrom t (chosen g.0 ls) n (length choices) =
      choices_sound_most t (with_locals (chosen g.0 [])) (map (λ (v : VarInfo). v.ty) (locals_at t t.entry)) g.2.choices n (length choices)
      (locals_follow t (chosen g.0 []) (all_globals g.0 g.1)) g.2.most g.2.fails in
      sound_by (procedure_numbered t t.entry).body refl g.0 l.0 g.1 l.1 n (length choices) l.2

  -- a run that begins by the rules is one of the machine
  start_leads : (m : Moment) → Begins t m → ReachesMirror t (start t) m
  start_leads m h =
      let locals_typed : AreOfTypes (map (λ (v : VarInfo). v.ty) (locals_at t t.entry)) m.top.locals =
      subst (λ (vs : List VarInfo). AreOfTypes (map (λ (v : VarInfo). v.ty) vs) m.top.locals) (sym entry_locals) h.locals in
      let there : Moment = moment h.body h.has_body m.globals m.top.locals h.globals locals_typed in
      let same : m ≡ there = λ i. record { globals = m.globals; top = h.top i; below = h.below i } in
      let end : Config = moved_to (chosen m.globals m.top.locals) (settled (todo h.body h.has_body m.globals m.top.locals h.globals locals_typed ∷ [])) in
      let reaches : Reaches t (start t) end =
      reaches_more t (start t) (chosen m.globals []) end
      (choices_made t (with_globals (start t)) (map (λ (v : VarInfo). v.ty) t.globals) m.globals (globals_follow t (start t)) h.globals)
      (reaches_more t (chosen m.globals []) (chosen m.globals m.top.locals) end
      (choices_made t (with_locals (chosen m.globals [])) (map (λ (v : VarInfo). v.ty) (locals_at t t.entry)) m.top.locals
      (locals_follow t (chosen m.globals []) (all_globals m.globals h.globals)) locals_typed)
      (starts_leads h.body h.has_body m.globals m.top.locals h.globals locals_typed
      (subst (λ (x : Moment). AllByRecursion (IsMet (seen x)) t.axioms) same h.axioms)
      (subst (λ (x : Moment). AreMet (seen x) (plain_conditions (procedure_numbered t t.entry).specs)) same h.requires)
      (subst (λ (x : Moment). AreMet (seen x) (free_conditions (procedure_numbered t t.entry).specs)) same h.free_requires))) in
      (end, reaches, subst (λ (x : Moment). Mirrors t end x) (sym same) (mirrored h.body h.has_body m.globals m.top.locals h.globals locals_typed))

  -- the machine and the rules agree about the start
  pub start_agrees : StartAgrees t
  start_agrees = record { sound = start_sound; leads = start_leads }

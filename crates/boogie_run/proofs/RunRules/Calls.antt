-- Calls: the requires, one after another, and the entry of a procedure with a body.
use Rattle.std.proofs.Common.{◌≡◌, ◌⊎◌, inl, inr, ℕ, zero, suc, ◌+◌, ◌-◌, ◌≤◌, ℤ, pos, Bool, true, false, nat_lt, List, [], ◌∷◌, ◌++◌, map, take, drop, length, Option, None, Some, slice_get, refl, ap, sym, ◌∙◌, subst, if◌then◌else◌, add-one, append-nil, arith}
use Rattle.std.proofs.lemmas.List.{length-map}
use Rattle.std.specs.Prelude.{unwrap_or}
use Rattle.boogie_tree.specs.declared.span.Span.{Span}
use Rattle.boogie_tree.specs.declared.tree.Ty.{Ty}
use Rattle.boogie_tree.specs.declared.tree.Column.{Column}
use Rattle.boogie_tree.specs.declared.tree.VarInfo.{VarInfo}
use Rattle.typed_tree.specs.TypedTree.{TypedExpression, TypedInvariant, TypedStatement, Call, TypedBlock, Empty, TypedSpecification, Requires, Ensures, TypedProcedure, TypedProgram}
use Rattle.typed_tree.specs.Values.{State, value}
use Rattle.typed_tree.specs.TypingRules.Counts.{one_if_plain, plain_invariants}
use Rattle.boogie_run.specs.BoogiePoints.Points.{Todo, Stage, Body, Point, settled, past}
use Rattle.boogie_run.specs.BoogiePoints.Actions.{Demand, Suppose, Enter, next_part, plain_conditions, free_conditions, called_action, call_action, call_if_any, statement_action, entry_action, entry_point, first_assertion, first_place}
use Rattle.boogie_run.specs.BoogiePoints.Starts.{point_of_procedure, point_of_call}
use Rattle.boogie_run.specs.Configurations.{Config, state_of}
use Rattle.boogie_run.specs.Needs.{Nothing, need, need_of_action, is_taken, locals_at}
use Rattle.boogie_run.specs.Steps.{Went, Blocked, Failed, moved_to, values, entered, act, is_true, step}
use Rattle.boogie_run.specs.Runs.{run}
use Rattle.boogie_run.specs.RunRules.Moments.{Activation, Moment, seen, begun}
use Rattle.boogie_run.specs.RunRules.Conditions.{AreMet, Breaks, AreOfTypes}
use Rattle.boogie_run.specs.RunRules.Steps.{procedure_numbered, statements_of, with_parameters, called, CalledLeads, StatementFails}
use Rattle.boogie_run.specs.RunRules.Ties.Mirrors.{pendings, moment_of, HasBody, IsFull, Mirrors}
use Rattle.boogie_run.specs.RunRules.Ties.Stretches.{outcome_of, ConditionsFollow, FailsFrom, Reaches}
use Rattle.boogie_run.specs.RunRules.Ties.Scenes.{Scene, SceneHolds, todo_at, config_at, moment_at, after_at, ReachesMirror, GoesOnWhere, StatementGoes, StatementAgrees}
use Rattle.boogie_run.proofs.RunRules.Stretches.{nothing_taken, of_types_length, reaches_more, one_step, step_sound, conditions_met, conditions_break, conditions_sound_most, choices_made, choices_sound_most}
use Rattle.boogie_run.proofs.RunRules.Scenes.{point_at, part_at, action_in, part_need, part_step, procedure_there, entry_part, entry_need, entry_step, with_locals, locals_follow, locals_chosen}

-- ---- the requires of a call

-- One more condition in front, if it is not free.
plain_first : (j : TypedInvariant) (free : Bool) → j.free ≡ free → (is : List TypedInvariant) (k : ℕ) (i : TypedInvariant) → slice_get (if free then is else (j ∷ is)) k ≡ Some i →
    ((m : ℕ) → slice_get is m ≡ Some i → (i.free ≡ false) × (plain_invariants (take m is) ≡ m)) →
    (i.free ≡ false) × (plain_invariants (take k (if free then is else (j ∷ is))) ≡ k)
plain_first j true f is k i e rest = rest k e
plain_first j false f is zero i e rest = let same : j ≡ i = cc in (ap (λ (x : TypedInvariant). x.free) (sym same) ∙ f, refl)
plain_first j false f is (suc k) i e rest =
    let r = rest k e in (r.0, rw (f, r.1) (omega arith))

-- Each plain requires is not free, so that number k of them is numbered k on.
pub plain_at : (ss : List TypedSpecification) (k : ℕ) (i : TypedInvariant) → slice_get (plain_conditions ss) k ≡ Some i →
    (i.free ≡ false) × (plain_invariants (take k (plain_conditions ss)) ≡ k)
plain_at [] k i e = absurd (cc)
plain_at (Requires j ∷ ss) k i e = plain_first j j.free refl (plain_conditions ss) k i e (λ m h. plain_at ss m i h)
plain_at (Ensures j ∷ ss) k i e = plain_at ss k i e

-- the action at one of the requires
demanded : (procs : List TypedProcedure) (f id : ℕ) (at : Span) (cs : List Column) (es : List TypedExpression) (here after : Point) (q : TypedProcedure) (i : TypedInvariant) →
    slice_get procs f ≡ Some q → slice_get (plain_conditions q.specs) here.part ≡ Some i →
    call_if_any (slice_get procs f) id f at cs es here after ≡ Demand (id + here.part) at i.cond es (next_part here)
demanded procs f id at cs es here after q i there e =
    ap (λ (o : Option TypedProcedure). call_if_any o id f at cs es here after) there
    ∙ ap (λ (o : Option TypedInvariant). call_action o (id + here.part) f q at cs es (here.part - length (plain_conditions q.specs)) here after) e

-- Past the end there is none.
pub none_at_end : {X : Type 0} (xs : List X) (k : ℕ) → length xs ≤ k → slice_get xs k ≡ None
none_at_end [] k h = refl
none_at_end (x ∷ xs) zero h = absurd (omega arith)
none_at_end (x ∷ xs) (suc k) h = none_at_end xs k (omega arith)

-- Behind the requires, with so many further parts done, comes the call itself.
pub behind_requires : (procs : List TypedProcedure) (body : TypedBlock) (first start : ℕ) (at : Span) (cs : List Column) (f : ℕ) (es : List TypedExpression) (b : TypedBlock) (of_loop : Bool) (id place : ℕ) (under todo : List Todo) (stage : Stage)
    (q : TypedProcedure) (done : ℕ) → slice_get procs f ≡ Some q →
    statement_action procs body first start (Call at cs f es) b of_loop id place under (record { stage = stage; todo = todo; part = length (plain_conditions q.specs) + done })
    ≡ called_action f q q.body cs es done (record { stage = stage; todo = todo; part = length (plain_conditions q.specs) + done }) (settled (past procs (Call at cs f es) b of_loop id place ∷ under))
behind_requires procs body first start at cs f es b of_loop id place under todo stage q done there =
    let here : Point = record { stage = stage; todo = todo; part = length (plain_conditions q.specs) + done } in
    let after : Point = settled (past procs (Call at cs f es) b of_loop id place ∷ under) in
    let less : here.part - length (plain_conditions q.specs) ≡ done = omega arith in
    ap (λ (o : Option TypedProcedure). call_if_any o id f at cs es here after) there
    ∙ ap (λ (o : Option TypedInvariant). call_action o (id + here.part) f q at cs es (here.part - length (plain_conditions q.specs)) here after)
    (none_at_end (plain_conditions q.specs) here.part (omega arith))
    ∙ ap (λ (n : ℕ). called_action f q q.body cs es n here after) less

-- a condition that is asserted and not free
demanded_outcome : (s : State) (i : TypedInvariant) (n m : ℕ) (next : Config) → i.free ≡ false → n ≡ m →
    (if is_true (value s i.cond) then Went next else Failed n) ≡ outcome_of s i m next
demanded_outcome s i n m next free same = rw (free, same)

-- a procedure that is there
found_procedure : (t : TypedProgram) (f : ℕ) (q : TypedProcedure) → slice_get t.procs f ≡ Some q → procedure_numbered t f ≡ q
found_procedure t f q there = rw there

-- a procedure that is not there has no requires
no_requires : (t : TypedProgram) (f k : ℕ) (i : TypedInvariant) → slice_get t.procs f ≡ None → slice_get (plain_conditions (procedure_numbered t f).specs) k ≡ Some i → ⊥
no_requires t f k i none e =
    let e : slice_get {X = TypedInvariant} [] k ≡ Some i = rw none at e in cc

-- one of the requires of a call, and that nothing is chosen there
one_requires : (t : TypedProgram) (sc : Scene) (at : Span) (cs : List Column) (f : ℕ) (es : List TypedExpression) (b : TypedBlock) (k : ℕ) (i : TypedInvariant) (q : TypedProcedure) →
    SceneHolds t sc → slice_get t.procs f ≡ Some q → slice_get (plain_conditions (procedure_numbered t f).specs) k ≡ Some i →
    (step t (part_at sc (Call at cs f es) b k) None
    ≡ outcome_of (with_parameters (seen (moment_at sc (Call at cs f es) b)) es) i (sc.id + plain_invariants (take k (plain_conditions (procedure_numbered t f).specs))) (part_at sc (Call at cs f es) b (k + 1)))
    × (need t (part_at sc (Call at cs f es) b k) ≡ Nothing)
one_requires t sc at cs f es b k i q holds there e =
    let s : TypedStatement = Call at cs f es in
    let c : Config = part_at sc s b k in
    let here : slice_get (plain_conditions q.specs) k ≡ Some i =
    subst (λ (p : TypedProcedure). slice_get (plain_conditions p.specs) k ≡ Some i) (found_procedure t f q there) e in
    let acts : action_in t sc holds.full.body s b k ≡ Demand (sc.id + k) at i.cond es (next_part (point_at sc s b k)) =
    demanded t.procs f sc.id at cs es (point_at sc s b k) (settled (past t.procs s b sc.of_loop sc.id sc.place ∷ sc.under)) q i there here in
    let nothing : need_of_action t sc.values.top.proc (action_in t sc holds.full.body s b k) ≡ Nothing = ap (need_of_action t sc.values.top.proc) acts in
    let plain = plain_at (procedure_numbered t f).specs k i e in (
      part_step t sc s b k holds nothing ∙ ap (act t c (pos 0)) acts
          ∙ demanded_outcome (with_parameters (seen (moment_at sc s b)) es) i (sc.id + k) (sc.id + plain_invariants (take k (plain_conditions (procedure_numbered t f).specs))) (part_at sc s b (k + 1)) plain.0
          (ap (λ (n : ℕ). sc.id + n) (sym plain.1)),
      part_need t sc s b k holds ∙ nothing,
    )

-- The requires of a call are next, one after another; also where there is no such procedure, and none.
pub requires_follow : (t : TypedProgram) (sc : Scene) (at : Span) (cs : List Column) (f : ℕ) (es : List TypedExpression) (b : TypedBlock) → SceneHolds t sc →
    ConditionsFollow t (part_at sc (Call at cs f es) b) (with_parameters (seen (moment_at sc (Call at cs f es) b)) es) (plain_conditions (procedure_numbered t f).specs) sc.id
requires_follow t sc at cs f es b holds k i e = by_procedure (slice_get t.procs f) refl
  where
    by_procedure : (o : Option TypedProcedure) → slice_get t.procs f ≡ o →
        (step t (part_at sc (Call at cs f es) b k) None
        ≡ outcome_of (with_parameters (seen (moment_at sc (Call at cs f es) b)) es) i (sc.id + plain_invariants (take k (plain_conditions (procedure_numbered t f).specs))) (part_at sc (Call at cs f es) b (k + 1)))
        × ((choice : Option ℤ) → is_taken (need t (part_at sc (Call at cs f es) b k)) choice ≡ true → choice ≡ None)
    by_procedure None there = absurd (no_requires t f k i there e)
    by_procedure (Some q) there =
        let one = one_requires t sc at cs f es b k i q holds there e in
        (one.0, λ choice h. nothing_taken (need t (part_at sc (Call at cs f es) b k)) choice one.1 h)

-- ---- the free requires of a procedure that begins

-- with so many of the conditions done that are assumed first, and these still to be assumed
abbrev pub entry_at : List TypedInvariant → ℕ → Todo → Point
entry_at [] k body = settled (body ∷ [])
entry_at (i ∷ is) k body = entry_part (body ∷ []) k

-- the first point of a procedure is that with none of the conditions done
pub entry_point_is : (is : List TypedInvariant) (body : Todo) → entry_point is body ≡ entry_at (drop 0 is) 0 body
entry_point_is [] body = refl
entry_point_is (i ∷ is) body = refl

-- Behind a member that is there: it, and the others.
drop_suc : (xs : List TypedInvariant) (k : ℕ) (x : TypedInvariant) → slice_get xs k ≡ Some x → drop k xs ≡ x ∷ drop (suc k) xs
drop_suc [] k x e = absurd (cc)
drop_suc (y ∷ ys) zero x e = let same : y ≡ x = cc in ap (λ (z : TypedInvariant). z ∷ ys) same
drop_suc (y ∷ ys) (suc k) x e = drop_suc ys k x e

drop_some : (xs : List TypedInvariant) (k : ℕ) (x : TypedInvariant) → slice_get xs k ≡ Some x → drop k xs ≡ x ∷ drop (k + 1) xs
drop_some xs k x e = rw add-one (drop_suc xs k x e)

-- where there is no member none is left
drop_none : (xs : List TypedInvariant) (k : ℕ) → slice_get xs k ≡ None → drop k xs ≡ []
drop_none [] zero e = refl
drop_none [] (suc k) e = refl
drop_none (y ∷ ys) zero e = absurd (cc)
drop_none (y ∷ ys) (suc k) e = drop_none ys k e

-- One more condition in front, if it is free.
free_first : (j : TypedInvariant) (free : Bool) → j.free ≡ free → (is : List TypedInvariant) (k : ℕ) (i : TypedInvariant) → slice_get (if free then (j ∷ is) else is) k ≡ Some i →
    ((m : ℕ) → slice_get is m ≡ Some i → i.free ≡ true) → i.free ≡ true
free_first j true f is zero i e rest = let same : j ≡ i = cc in ap (λ (x : TypedInvariant). x.free) (sym same) ∙ f
free_first j true f is (suc k) i e rest = rest k e
free_first j false f is k i e rest = rest k e

-- Each free requires is free.
pub free_at : (ss : List TypedSpecification) (k : ℕ) (i : TypedInvariant) → slice_get (free_conditions ss) k ≡ Some i → i.free ≡ true
free_at [] k i e = absurd (cc)
free_at (Requires j ∷ ss) k i e = free_first j j.free refl (free_conditions ss) k i e (λ m h. free_at ss m i h)
free_at (Ensures j ∷ ss) k i e = free_at ss k i e

-- conditions of which each is free fail no assertion
never_break : (s : State) (is : List TypedInvariant) (id n : ℕ) → ((k : ℕ) (i : TypedInvariant) → slice_get is k ≡ Some i → i.free ≡ true) → Breaks s is id n → ⊥
never_break s [] id n free h = h
never_break s (i ∷ is) id n free (inl h) = let e = free 0 i refl in cc
never_break s (i ∷ is) id n free (inr h) = never_break s is (id + one_if_plain i) n (λ k j e. free (suc k) j e) h.1

-- free conditions fail no assertion
pub free_never_break : (s : State) (ss : List TypedSpecification) (id n : ℕ) → Breaks s (free_conditions ss) id n → ⊥
free_never_break s ss id n h = never_break s (free_conditions ss) id n (free_at ss) h

-- a condition that is assumed
supposed_outcome : (s : State) (i : TypedInvariant) (m : ℕ) (next : Config) → i.free ≡ true →
    (if is_true (value s i.cond) then Went next else Blocked) ≡ outcome_of s i m next
supposed_outcome s i m next free = rw free

-- what is assumed at the entry, and where it leads
entry_supposes : (is : List TypedInvariant) (k : ℕ) (i : TypedInvariant) (body : Todo) → slice_get is k ≡ Some i →
    entry_action (slice_get is k) (slice_get is (k + 1)) (entry_part (body ∷ []) k) ≡ Suppose i.cond (entry_at (drop (k + 1) is) (k + 1) body)
entry_supposes is k i body e = rw e (by_next (slice_get is (k + 1)) refl)
  where
    by_next : (o : Option TypedInvariant) → slice_get is (k + 1) ≡ o →
        entry_action (Some i) o (entry_part (body ∷ []) k) ≡ Suppose i.cond (entry_at (drop (k + 1) is) (k + 1) body)
    by_next None h = ap (λ (js : List TypedInvariant). Suppose i.cond (entry_at js (k + 1) body)) (sym (drop_none is (k + 1) h))
    by_next (Some j) h = ap (λ (js : List TypedInvariant). Suppose i.cond (entry_at js (k + 1) body)) (sym (drop_some is (k + 1) j h))

-- The free requires of a procedure that begins are next, one after another; behind the last the body.
pub entry_follow : (t : TypedProgram) (v : Config) (full : IsFull t v) (body : Todo) (id : ℕ) →
    ConditionsFollow t (λ k. moved_to v (entry_at (drop k (free_conditions full.body.procedure.specs)) k body)) (state_of v) (free_conditions full.body.procedure.specs) id
entry_follow t v full body id k i e =
    let is : List TypedInvariant = free_conditions full.body.procedure.specs in
    let at : Config = moved_to v (entry_part (body ∷ []) k) in
    let same : moved_to v (entry_at (drop k is) k body) ≡ at = ap (λ (js : List TypedInvariant). moved_to v (entry_at js k body)) (drop_some is k i e) in
    let goes : step t at None ≡ outcome_of (state_of v) i (id + plain_invariants (take k is)) (moved_to v (entry_at (drop (k + 1) is) (k + 1) body)) =
    entry_step t v (body ∷ []) k full ∙ ap (act t at (pos 0)) (entry_supposes is k i body e)
    ∙ supposed_outcome (state_of v) i (id + plain_invariants (take k is)) (moved_to v (entry_at (drop (k + 1) is) (k + 1) body)) (free_at full.body.procedure.specs k i e) in (
      ap (λ (c : Config). step t c None) same ∙ goes,
      λ choice h. nothing_taken (need t (moved_to v (entry_at (drop k is) k body))) choice (ap (need t) same ∙ entry_need t v (body ∷ []) k full) h,
    )

-- ---- a call of a procedure with a body

-- the body of a procedure, all of it still to do
abbrev pub body_todo : (t : TypedProgram) (f : ℕ) → HasBody t f → Todo
body_todo t f h = record { rest = h.body; of_loop = false; id = first_assertion t.procs f; at = first_place t f + length (free_conditions h.procedure.specs) }

-- where a procedure with a body begins
point_is : (t : TypedProgram) (f : ℕ) (h : HasBody t f) →
    point_of_call t f (slice_get t.procs f) ≡ entry_at (drop 0 (free_conditions h.procedure.specs)) 0 (body_todo t f h)
point_is t f h =
    ap (point_of_call t f) h.there ∙ ap (point_of_procedure t f h.procedure) h.has_body ∙ entry_point_is (free_conditions h.procedure.specs) (body_todo t f h)

-- behind all none is left
pub drop_all : (xs : List TypedInvariant) → drop (length xs) xs ≡ []
drop_all xs = drop_none xs (length xs) (none_at_end xs (length xs) (omega arith))

-- the locals that the machine and the rules find
pub same_locals : (t : TypedProgram) (f : ℕ) (h : HasBody t f) → locals_at t f ≡ (procedure_numbered t f).locals
same_locals t f h = rw h.there

-- The procedure that a call enters, with the values of its other locals.
abbrev pub inside : TypedProgram → Config → ℕ → List ℤ → List ℤ → Config
inside t c f args others = with_locals (entered t c f args) others

-- with no other local it has just been entered
inside_none : (t : TypedProgram) (c : Config) (f : ℕ) (args : List ℤ) → inside t c f args [] ≡ entered t c f args
inside_none t c f args = ap (λ (zs : List ℤ). record (entered t c f args) { top = record (entered t c f args).top { locals = zs } }) (append-nil args)

-- the types of the locals that are no parameters
abbrev pub types_of_others : TypedProgram → ℕ → List ℤ → List Ty
types_of_others t f args = map (λ v. v.ty) (drop (length args) (locals_at t f))

-- the same types in the rules
others_types : (t : TypedProgram) (f : ℕ) (s : State) (es : List TypedExpression) → HasBody t f →
    map (λ v. v.ty) (drop (length es) (procedure_numbered t f).locals) ≡ types_of_others t f (values s es)
others_types t f s es h =
    ap (λ (n : ℕ). map (λ (v : VarInfo). v.ty) (drop n (procedure_numbered t f).locals)) (sym (length-map es (value s)))
    ∙ ap (λ (vs : List VarInfo). map (λ (v : VarInfo). v.ty) (drop (length (values s es)) vs)) (sym (same_locals t f h))

-- where the other locals have values of their types, all values are there
pub inside_full : (t : TypedProgram) (c : Config) (f : ℕ) (args others : List ℤ) → HasBody t f → nat_lt (length c.globals) (length t.globals) ≡ false →
    AreOfTypes (types_of_others t f args) others → IsFull t (inside t c f args others)
inside_full t c f args others h full of_types =
    record {
      all_globals = full;
      all_locals = locals_chosen t (entered t c f args) others (of_types_length (types_of_others t f args) others of_types);
      body = h;
    }

-- in front of the body, where the free requires are met
abbrev pub begun_at : (t : TypedProgram) (c : Config) (f : ℕ) → List ℤ → List ℤ → HasBody t f → Config
begun_at t c f args others h = moved_to (inside t c f args others) (settled (body_todo t f h ∷ []))

-- the first of its free requires comes first
entry_start : (t : TypedProgram) (c : Config) (f : ℕ) (args others : List ℤ) (h : HasBody t f) →
    inside t c f args others ≡ moved_to (inside t c f args others) (entry_at (drop 0 (free_conditions h.procedure.specs)) 0 (body_todo t f h))
entry_start t c f args others h = ap (moved_to (inside t c f args others)) (point_is t f h)

-- behind the last comes the body
entry_end : (v : Config) (is : List TypedInvariant) (body : Todo) → moved_to v (entry_at (drop (length is) is) (length is) body) ≡ moved_to v (settled (body ∷ []))
entry_end v is body = ap (λ (js : List TypedInvariant). moved_to v (entry_at js (length is) body)) (drop_all is)

-- the machine chooses the other locals, and goes past the free requires
pub enters : (t : TypedProgram) (c : Config) (f : ℕ) (args others : List ℤ) (h : HasBody t f) → nat_lt (length c.globals) (length t.globals) ≡ false →
    AreOfTypes (types_of_others t f args) others → AreMet (state_of (inside t c f args others)) (free_conditions h.procedure.specs) →
    Reaches t (entered t c f args) (begun_at t c f args others h)
unfolding inside_full
enters t c f args others h full of_types met =
    let is : List TypedInvariant = free_conditions h.procedure.specs in
    let v : Config = inside t c f args others in
    let chosen : Reaches t (entered t c f args) v =
    subst (λ (d : Config). Reaches t d v) (inside_none t c f args)
    (choices_made t (inside t c f args) (types_of_others t f args) others (locals_follow t (entered t c f args) full) of_types) in
    let follow = entry_follow t v (inside_full t c f args others h full of_types) (body_todo t f h) 0 in
    let past_all = conditions_met t (λ k. moved_to v (entry_at (drop k is) k (body_todo t f h))) (state_of v) is 0 follow met in
    reaches_more t (entered t c f args) v (begun_at t c f args others h) chosen
    (subst (Reaches t v) (entry_end v is (body_todo t f h))
    (subst (λ (d : Config). Reaches t d (moved_to v (entry_at (drop (length is) is) (length is) (body_todo t f h)))) (sym (entry_start t c f args others h)) past_all))

-- A failed run from there chooses other locals, with which the free requires are met.
pub record EntersTo (t : TypedProgram) (c : Config) (f : ℕ) (args : List ℤ) (h : HasBody t f) (n bound : ℕ) : Type 0 where
  pub others : List ℤ
  pub of_types : AreOfTypes (types_of_others t f args) others
  pub met : AreMet (state_of (inside t c f args others)) (free_conditions h.procedure.specs)
  pub fails : FailsFrom t (begun_at t c f args others h) n bound

-- A failed run of the machine does so.
pub enters_sound : (t : TypedProgram) (c : Config) (f : ℕ) (args : List ℤ) (h : HasBody t f) (choices : List (Option ℤ)) (n bound : ℕ) → nat_lt (length c.globals) (length t.globals) ≡ false →
    length choices ≤ bound → run t (entered t c f args) choices ≡ Failed n → EntersTo t c f args h n bound
unfolding inside_full
enters_sound t c f args h choices n bound full most fails =
    let is : List TypedInvariant = free_conditions h.procedure.specs in
    let body : Todo = body_todo t f h in
    let chosen =
    choices_sound_most t (inside t c f args) (types_of_others t f args) choices n bound (locals_follow t (entered t c f args) full) most
    (subst (λ (d : Config). run t d choices ≡ Failed n) (sym (inside_none t c f args)) fails) in
    let v : Config = inside t c f args chosen.0 in
    let follow = entry_follow t v (inside_full t c f args chosen.0 h full chosen.1) body 0 in
    let rest : FailsFrom t (moved_to v (entry_at (drop 0 is) 0 body)) n bound = subst (λ (d : Config). FailsFrom t d n bound) (entry_start t c f args chosen.0 h) chosen.2 in
    by_conditions chosen.0 chosen.1
    (conditions_sound_most t (λ k. moved_to v (entry_at (drop k is) k body)) (state_of v) is 0 rest.choices n bound follow rest.most rest.fails)
  where
    by_conditions : (others : List ℤ) → AreOfTypes (types_of_others t f args) others →
        (Breaks (state_of (inside t c f args others)) (free_conditions h.procedure.specs) 0 n
        ⊎ (AreMet (state_of (inside t c f args others)) (free_conditions h.procedure.specs)
        × FailsFrom t (moved_to (inside t c f args others) (entry_at (drop (length (free_conditions h.procedure.specs)) (free_conditions h.procedure.specs)) (length (free_conditions h.procedure.specs)) (body_todo t f h))) n bound)) →
        EntersTo t c f args h n bound
    by_conditions others of_types (inl breaks) = absurd (free_never_break (state_of (inside t c f args others)) h.procedure.specs 0 n breaks)
    by_conditions others of_types (inr goes) =
        record {
          others = others;
          of_types = of_types;
          met = goes.0;
          fails = subst (λ (d : Config). FailsFrom t d n bound) (entry_end (inside t c f args others) (free_conditions h.procedure.specs) (body_todo t f h)) goes.1;
        }

-- ---- the moment of a call

-- the body, and its statements, in the rules
body_is : (t : TypedProgram) (f : ℕ) (h : HasBody t f) → (procedure_numbered t f).body ≡ Some h.body
body_is t f h = ap (λ (p : TypedProcedure). p.body) (procedure_there t f h) ∙ h.has_body

pub statements_are : (t : TypedProgram) (f : ℕ) (h : HasBody t f) → statements_of (procedure_numbered t f) ≡ h.body
statements_are t f h = ap (λ (o : Option TypedBlock). unwrap_or o Empty) (body_is t f h)

-- behind the requires of a call
abbrev pub behind_at : TypedProgram → Scene → TypedStatement → TypedBlock → ℕ → Config
behind_at t sc s b f = part_at sc s b (length (plain_conditions (procedure_numbered t f).specs))

-- the caller, which waits behind the call
abbrev pub caller_at : TypedProgram → Scene → TypedStatement → TypedBlock → Activation
caller_at t sc s b =
    record { proc = sc.values.top.proc; locals = sc.values.top.locals; entry = sc.values.top.entry; pending = after_at t sc s b; targets = sc.targets }

-- the moment that the rules lead to has the values that the machine has
called_is : (t : TypedProgram) (sc : Scene) (at : Span) (cs : List Column) (f : ℕ) (es : List TypedExpression) (b : TypedBlock) (k : ℕ) (others : List ℤ) (h : HasBody t f) →
    called t (moment_at sc (Call at cs f es) b) f (map (value (seen (moment_at sc (Call at cs f es) b))) es ++ others) cs (after_at t sc (Call at cs f es) b)
    ≡ moment_of (inside t (part_at sc (Call at cs f es) b k) f (values (state_of sc.values) es) others) cs (caller_at t sc (Call at cs f es) b ∷ sc.below) (pendings (body_todo t f h ∷ []))
called_is t sc at cs f es b k others h =
    ap (λ (x : TypedBlock). moment_of (inside t (part_at sc (Call at cs f es) b k) f (values (state_of sc.values) es) others) cs (caller_at t sc (Call at cs f es) b ∷ sc.below)
    (begun x false (first_assertion t.procs f) ∷ [])) (statements_are t f h)

-- and is mirrored there
called_mirrors : (t : TypedProgram) (sc : Scene) (at : Span) (cs : List Column) (f : ℕ) (es : List TypedExpression) (b : TypedBlock) (k : ℕ) (others : List ℤ) (h : HasBody t f) → SceneHolds t sc →
    AreOfTypes (types_of_others t f (values (state_of sc.values) es)) others →
    Mirrors t (begun_at t (part_at sc (Call at cs f es) b k) f (values (state_of sc.values) es) others h)
    (called t (moment_at sc (Call at cs f es) b) f (map (value (seen (moment_at sc (Call at cs f es) b))) es ++ others) cs (after_at t sc (Call at cs f es) b))
called_mirrors t sc at cs f es b k others h holds of_types =
    record {
      values = inside t (part_at sc (Call at cs f es) b k) f (values (state_of sc.values) es) others;
      todo = body_todo t f h ∷ [];
      targets = cs;
      below = caller_at t sc (Call at cs f es) b ∷ sc.below;
      config = refl;
      moment = called_is t sc at cs f es b k others h;
      waits = (
        record { proc = refl; locals = refl; entry = refl; targets_are = refl; pending = refl; all_locals = holds.full.all_locals; body = holds.full.body },
        holds.waits,
      );
      full = inside_full t (part_at sc (Call at cs f es) b k) f (values (state_of sc.values) es) others h holds.full.all_globals of_types;
    }

-- ---- the step into the procedure

-- behind the requires the procedure is entered
enter_action : (t : TypedProgram) (sc : Scene) (at : Span) (cs : List Column) (f : ℕ) (es : List TypedExpression) (b : TypedBlock) (holds : SceneHolds t sc) → HasBody t f →
    action_in t sc holds.full.body (Call at cs f es) b (length (plain_conditions (procedure_numbered t f).specs)) ≡ Enter f es
enter_action t sc at cs f es b holds h =
    let s : TypedStatement = Call at cs f es in
    let n : ℕ = sc.values.top.proc in
    let e : length (plain_conditions (procedure_numbered t f).specs) ≡ length (plain_conditions h.procedure.specs) =
    ap (λ (p : TypedProcedure). length (plain_conditions p.specs)) (procedure_there t f h) in
    let k : length (plain_conditions (procedure_numbered t f).specs) ≡ length (plain_conditions h.procedure.specs) + 0 = omega arith in
    ap (action_in t sc holds.full.body s b) k
    ∙ behind_requires t.procs holds.full.body.body (first_assertion t.procs n) (first_place t n + length (free_conditions holds.full.body.procedure.specs)) at cs f es b sc.of_loop sc.id sc.place sc.under
    (todo_at sc s b ∷ sc.under) Body h.procedure 0 h.there
    ∙ ap (λ (o : Option TypedBlock). called_action f h.procedure o cs es 0 (point_at sc s b (length (plain_conditions h.procedure.specs) + 0))
    (settled (past t.procs s b sc.of_loop sc.id sc.place ∷ sc.under))) h.has_body

-- nothing is chosen for that
enter_need : (t : TypedProgram) (sc : Scene) (at : Span) (cs : List Column) (f : ℕ) (es : List TypedExpression) (b : TypedBlock) (holds : SceneHolds t sc) → HasBody t f →
    need_of_action t sc.values.top.proc (action_in t sc holds.full.body (Call at cs f es) b (length (plain_conditions (procedure_numbered t f).specs))) ≡ Nothing
enter_need t sc at cs f es b holds h = ap (need_of_action t sc.values.top.proc) (enter_action t sc at cs f es b holds h)

enter_step : (t : TypedProgram) (sc : Scene) (at : Span) (cs : List Column) (f : ℕ) (es : List TypedExpression) (b : TypedBlock) (holds : SceneHolds t sc) → HasBody t f →
    step t (behind_at t sc (Call at cs f es) b f) None ≡ Went (entered t (behind_at t sc (Call at cs f es) b f) f (values (state_of sc.values) es))
enter_step t sc at cs f es b holds h =
    part_step t sc (Call at cs f es) b (length (plain_conditions (procedure_numbered t f).specs)) holds (enter_need t sc at cs f es b holds h)
    ∙ ap (act t (behind_at t sc (Call at cs f es) b f) (pos 0)) (enter_action t sc at cs f es b holds h)

-- ---- a call of a procedure with a body agrees

-- where the rules lead the machine goes
call_leads : (t : TypedProgram) (sc : Scene) (at : Span) (cs : List Column) (f : ℕ) (es : List TypedExpression) (b : TypedBlock) → SceneHolds t sc → HasBody t f →
    (d : Moment) → StatementGoes t sc (Call at cs f es) b d → ReachesMirror t (config_at sc (Call at cs f es) b) d
call_leads t sc at cs f es b holds h d goes =
    let s : TypedStatement = Call at cs f es in
    let m : Moment = moment_at sc s b in
    let args : List ℤ = values (state_of sc.values) es in
    let c : Config = behind_at t sc s b f in
    let into : CalledLeads t m f (Some h.body) cs es (after_at t sc s b) d = subst (λ (o : Option TypedBlock). CalledLeads t m f o cs es (after_at t sc s b) d) (body_is t f h) goes.1 in
    let others : List ℤ = into.0 in
    let of_types : AreOfTypes (types_of_others t f args) others = subst (λ (tys : List Ty). AreOfTypes tys others) (others_types t f (state_of sc.values) es h) into.1 in
    let met : AreMet (state_of (inside t c f args others)) (free_conditions h.procedure.specs) =
    subst (λ (p : TypedProcedure). AreMet (state_of (inside t c f args others)) (free_conditions p.specs)) (procedure_there t f h)
    (subst (λ (x : Moment). AreMet (seen x) (free_conditions (procedure_numbered t f).specs)) into.2 into.3) in
    let asked : Reaches t (config_at sc s b) c =
    conditions_met t (part_at sc s b) (with_parameters (seen m) es) (plain_conditions (procedure_numbered t f).specs) sc.id (requires_follow t sc at cs f es b holds) goes.0 in
    let stepped : Reaches t c (entered t c f args) = one_step t c (entered t c f args) None (enter_step t sc at cs f es b holds h) in
    let begins : Reaches t (entered t c f args) (begun_at t c f args others h) = enters t c f args others h holds.full.all_globals of_types met in (
      begun_at t c f args others h,
      reaches_more t (config_at sc s b) c (begun_at t c f args others h) asked (reaches_more t c (entered t c f args) (begun_at t c f args others h) stepped begins),
      subst (Mirrors t (begun_at t c f args others h)) (sym into.2) (called_mirrors t sc at cs f es b (length (plain_conditions (procedure_numbered t f).specs)) others h holds of_types),
    )

-- where the machine fails the rules fail, or lead to where it goes on
call_sound : (t : TypedProgram) (sc : Scene) (at : Span) (cs : List Column) (f : ℕ) (es : List TypedExpression) (b : TypedBlock) → SceneHolds t sc → HasBody t f →
    (n bound : ℕ) (choices : List (Option ℤ)) → length choices ≤ suc bound → run t (config_at sc (Call at cs f es) b) choices ≡ Failed n →
    StatementFails t (moment_at sc (Call at cs f es) b) (Call at cs f es) sc.id n ⊎ GoesOnWhere t (StatementGoes t sc (Call at cs f es) b) n bound
call_sound t sc at cs f es b holds h n bound choices most fails =
    by_requires
    (conditions_sound_most t (part_at sc s b) (with_parameters (seen m) es) (plain_conditions (procedure_numbered t f).specs) sc.id choices n (suc bound) (requires_follow t sc at cs f es b holds) most fails)
  where
    s : TypedStatement
    s = Call at cs f es

    m : Moment
    m = moment_at sc s b

    args : List ℤ
    args = values (state_of sc.values) es

    c : Config
    c = behind_at t sc s b f

    by_requires : (Breaks (with_parameters (seen m) es) (plain_conditions (procedure_numbered t f).specs) sc.id n
        ⊎ (AreMet (with_parameters (seen m) es) (plain_conditions (procedure_numbered t f).specs) × FailsFrom t c n (suc bound))) →
        StatementFails t m s sc.id n ⊎ GoesOnWhere t (StatementGoes t sc s b) n bound
    by_requires (inl breaks) = inl breaks
    by_requires (inr goes) =
        let into : FailsFrom t (entered t c f args) n bound =
        step_sound t c (entered t c f args) goes.1.choices n bound (part_need t sc s b (length (plain_conditions (procedure_numbered t f).specs)) holds ∙ enter_need t sc at cs f es b holds h)
        (enter_step t sc at cs f es b holds h) goes.1.most goes.1.fails in
        let to : EntersTo t c f args h n bound = enters_sound t c f args h into.choices n bound holds.full.all_globals into.most into.fails in
        let d : Moment = called t m f (args ++ to.others) cs (after_at t sc s b) in
        let leads : CalledLeads t m f (Some h.body) cs es (after_at t sc s b) d = (
          to.others,
          subst (λ (tys : List Ty). AreOfTypes tys to.others) (sym (others_types t f (state_of sc.values) es h)) to.of_types,
          refl,
          subst (λ (p : TypedProcedure). AreMet (seen d) (free_conditions p.specs)) (sym (procedure_there t f h)) to.met,
        ) in
        inr
        record {
          moment = d;
          config = begun_at t c f args to.others h;
          leads = (goes.0, subst (λ (o : Option TypedBlock). CalledLeads t m f o cs es (after_at t sc s b) d) (sym (body_is t f h)) leads);
          mirrors = called_mirrors t sc at cs f es b (length (plain_conditions (procedure_numbered t f).specs)) to.others h holds to.of_types;
          fails = to.fails;
        }

-- a procedure whose body is there
has_body_of : (t : TypedProgram) (f : ℕ) (x : TypedBlock) (o : Option TypedProcedure) → slice_get t.procs f ≡ o → (procedure_numbered t f).body ≡ Some x → HasBody t f
has_body_of t f x None there e = let k = rw there at e in absurd (cc)
has_body_of t f x (Some q) there e = record { procedure = q; body = x; there = there; has_body = ap (λ (p : TypedProcedure). p.body) (sym (found_procedure t f q there)) ∙ e }

-- A call of a procedure that has a body agrees.
pub call_agrees : (t : TypedProgram) (sc : Scene) (at : Span) (cs : List Column) (f : ℕ) (es : List TypedExpression) (b : TypedBlock) → SceneHolds t sc →
    (x : TypedBlock) → (procedure_numbered t f).body ≡ Some x → StatementAgrees t sc (Call at cs f es) b
call_agrees t sc at cs f es b holds x e =
    let h : HasBody t f = has_body_of t f x (slice_get t.procs f) refl e in
    record {
      sound = call_sound t sc at cs f es b holds h;
      leads = call_leads t sc at cs f es b holds h;
      fails = λ n breaks.
          conditions_break t (part_at sc (Call at cs f es) b) (with_parameters (seen (moment_at sc (Call at cs f es) b)) es) (plain_conditions (procedure_numbered t f).specs) sc.id n
          (requires_follow t sc at cs f es b holds) breaks;
    }

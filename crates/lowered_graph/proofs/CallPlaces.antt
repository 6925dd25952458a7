-- At which places procedures are entered and left.
use Rattle.std.proofs.Common.{◌≡◌, ◌∙◌, ◌⊎◌, ℕ, zero, suc, ◌+◌, ◌-◌, ◌<◌, ◌≤◌, Bool, true, false, List, [], ◌∷◌, ◌++◌, length, Option, None, Some, inl, inr, refl, sym, ap, subst, arith}
use Rattle.std.specs.Prelude.{slice_get, take}
use Rattle.boogie_tree.specs.declared.span.Span.{Span}
use Rattle.boogie_tree.specs.declared.tree.Column.{Column}
use Rattle.typed_tree.specs.TypedTree.{TypedExpression, TypedGuard, Any, Cond, TypedInvariant, TypedStatement, Assert, Assume, Havoc, Assign, Call, If, While, Break, Goto, Return, Label, TypedBlock, Empty, Then, TypedProcedure, TypedProgram}
use Rattle.boogie_run.specs.BoogiePoints.Points.{Todo, Start, Entry, Body, Exit, Stage, Point, at_exit, before, settled, past}
use Rattle.boogie_run.specs.BoogiePoints.Actions as actions
use Rattle.boogie_run.specs.BoogiePoints.Actions.{Action, next_part, action_at, stage_action, body_or_leave, procedure_action, start_action, entry_action, exit_action, body_action, block_action, statement_action, checked, guarded, head_action, havoc_action, one_of, ways_to, call_if_any, call_action, called_action, unseen_action, free_conditions, ensured_conditions, start_conditions, plain_conditions, chosen_columns, first_assertion, first_place, first_point}
use Rattle.boogie_run.specs.BoogiePlaces.Places.{parts_from, at_statement, points_in, points_of, points_of_body, IsOneOf}
use Rattle.typed_tree.specs.TypingRules.Counts.{plain_invariants, assertions, points, block_assertions, block_points, checked_at_call}
use Rattle.lowered_graph.specs.Arcs.{return_point}
use Rattle.lowered_graph.proofs.KnownPlaces.{IsKnown, point_either, point_rest}

-- ---- actions that do not return, enter procedures with bodies alone, and write columns that have a property

abbrev pub GoesOn : (List Column → Type 0) → TypedProgram → Action → Type 0
GoesOn W t (actions.Check id at e next) = Unit {0}
GoesOn W t (actions.Suppose e next) = Unit {0}
GoesOn W t (actions.Demand id at e args next) = Unit {0}
GoesOn W t (actions.Write cs es next) = W cs
GoesOn W t (actions.Guess c next) = Unit {0}
GoesOn W t (actions.Test e hit miss) = Unit {0}
GoesOn W t (actions.Pick ways) = Unit {0}
GoesOn W t (actions.Jump next) = Unit {0}
GoesOn W t (actions.Enter f args) = (q : TypedProcedure) × (b : TypedBlock) × (slice_get t.procs f ≡ Some q) × (q.body ≡ Some b)
GoesOn W t (actions.Keep f args c next) = Unit {0}
GoesOn W t (actions.Grant f args e next) = Unit {0}
GoesOn W t (actions.Finish f args targets next) = Unit {0}
GoesOn W t actions.Leave = ⊥

checked_on : (W : List Column → Type 0) (t : TypedProgram) (free : Bool) (id : ℕ) (at : Span) (e : TypedExpression) (next : Point) → GoesOn W t (checked free id at e next)
checked_on W t true id at e next = tt
checked_on W t false id at e next = tt

guarded_on : (W : List Column → Type 0) (t : TypedProgram) (g : TypedGuard) (hit miss : Point) → GoesOn W t (guarded g hit miss)
guarded_on W t Any hit miss = tt
guarded_on W t (Cond e) hit miss = tt

head_on : (W : List Column → Type 0) (t : TypedProgram) (o : Option TypedInvariant) (id : ℕ) (here : Point) (guard : Action) → GoesOn W t guard → GoesOn W t (head_action o id here guard)
head_on W t (Some i) id here guard h = checked_on W t i.free id i.span i.cond (next_part here)
head_on W t None id here guard h = h

havoc_on : (W : List Column → Type 0) (t : TypedProgram) (o more : Option Column) (here after : Point) → GoesOn W t (havoc_action o more here after)
havoc_on W t None more here after = tt
havoc_on W t (Some c) None here after = tt
havoc_on W t (Some c) (Some d) here after = tt

one_on : (W : List Column → Type 0) (t : TypedProgram) (ways : List Point) → GoesOn W t (one_of ways)
one_on W t [] = tt
one_on W t (p ∷ []) = tt
one_on W t (p ∷ q ∷ ps) = tt

unseen_on : (W : List Column → Type 0) (t : TypedProgram) (c : Option Column) (i : Option TypedInvariant) (f : ℕ) (targets : List Column) (args : List TypedExpression) (here next : Point) → GoesOn W t (unseen_action c i f targets args here next)
unseen_on W t (Some c) i f targets args here next = tt
unseen_on W t None (Some i) f targets args here next = tt
unseen_on W t None None f targets args here next = tt

called_on : (W : List Column → Type 0) (t : TypedProgram) (f : ℕ) (q : TypedProcedure) (o : Option TypedBlock) (targets : List Column) (args : List TypedExpression) (done : ℕ) (here next : Point) →
    slice_get t.procs f ≡ Some q → q.body ≡ o → GoesOn W t (called_action f q o targets args done here next)
called_on W t f q None targets args done here next e k = unseen_on W t (slice_get (chosen_columns q) done) (slice_get (ensured_conditions q.specs) (done - length (chosen_columns q))) f targets args here next
called_on W t f q (Some b) targets args done here next e k = (q, b, e, k)

call_on : (W : List Column → Type 0) (t : TypedProgram) (i : Option TypedInvariant) (id f : ℕ) (q : TypedProcedure) (at : Span) (targets : List Column) (args : List TypedExpression) (done : ℕ) (here next : Point) →
    slice_get t.procs f ≡ Some q → GoesOn W t (call_action i id f q at targets args done here next)
call_on W t (Some i) id f q at targets args done here next e = tt
call_on W t None id f q at targets args done here next e = called_on W t f q q.body targets args done here next e refl

call_any_on : (W : List Column → Type 0) (t : TypedProgram) (o : Option TypedProcedure) (id f : ℕ) (at : Span) (targets : List Column) (args : List TypedExpression) (here next : Point) →
    slice_get t.procs f ≡ o → GoesOn W t (call_if_any o id f at targets args here next)
call_any_on W t None id f at targets args here next e = tt
call_any_on W t (Some q) id f at targets args here next e =
    call_on W t (slice_get (plain_conditions q.specs) here.part) (id + here.part) f q at targets args (here.part - length (plain_conditions q.specs)) here next e

-- the columns that an assignment writes have the property
abbrev pub StatementWrites : (List Column → Type 0) → TypedStatement → Type 0
StatementWrites W (Assign at cs es) = W cs
StatementWrites W s = Unit {0}

abbrev pub BlockWrites : (List Column → Type 0) → TypedBlock → Type 0
BlockWrites W Empty = Unit {0}
BlockWrites W (Then s b) = StatementWrites W s

-- so do those of the first statement that is still to do
abbrev pub TodoWrites : (List Column → Type 0) → List Todo → Type 0
TodoWrites W [] = Unit {0}
TodoWrites W (d ∷ ds) = BlockWrites W d.rest

statement_on : (W : List Column → Type 0) (t : TypedProgram) (body : TypedBlock) (first start : ℕ) (s : TypedStatement) (b : TypedBlock) (loop : Bool) (id place : ℕ) (under : List Todo) (here : Point) → StatementWrites W s →
    GoesOn W t (statement_action t.procs body first start s b loop id place under here)
statement_on W t body first start (Assert at e) b loop id place under here h = tt
statement_on W t body first start (Assume at e) b loop id place under here h = tt
statement_on W t body first start (Havoc at cs) b loop id place under here h = havoc_on W t (slice_get cs here.part) (slice_get cs (here.part + 1)) here (settled (past t.procs (Havoc at cs) b loop id place ∷ under))
statement_on W t body first start (Assign at cs es) b loop id place under here h = h
statement_on W t body first start (Call at cs f es) b loop id place under here h = call_any_on W t (slice_get t.procs f) id f at cs es here (settled (past t.procs (Call at cs f es) b loop id place ∷ under)) refl
statement_on W t body first start (If at g x y) b loop id place under here h =
    guarded_on W t g (settled (record { rest = x; of_loop = false; id = id; at = place + 1 } ∷ past t.procs (If at g x y) b loop id place ∷ under))
    (settled (record { rest = y; of_loop = false; id = id + block_assertions t.procs x; at = place + 1 + block_points t.procs x } ∷ past t.procs (If at g x y) b loop id place ∷ under))
statement_on W t body first start (While at g is x) b loop id place under here h =
    let hit : Point = settled (record { rest = x; of_loop = true; id = id + plain_invariants is; at = place + length is + 1 } ∷ here.todo) in
    let miss : Point = settled (past t.procs (While at g is x) b loop id place ∷ under) in
    head_on W t (slice_get is here.part) (id + plain_invariants (take here.part is)) here (guarded g hit miss) (guarded_on W t g hit miss)
statement_on W t body first start (Break at n) b loop id place under here h = tt
statement_on W t body first start (Goto at ks) b loop id place under here h = one_on W t (ways_to t.procs body first start ks)
statement_on W t body first start (Return at) b loop id place under here h = tt
statement_on W t body first start (Label n) b loop id place under here h = tt

block_on : (W : List Column → Type 0) (t : TypedProgram) (body : TypedBlock) (first start : ℕ) (x : TypedBlock) (loop : Bool) (id place : ℕ) (under : List Todo) (here : Point) → BlockWrites W x →
    GoesOn W t (block_action t.procs body first start x loop id place under here)
block_on W t body first start Empty loop id place under here h = tt
block_on W t body first start (Then s b) loop id place under here h = statement_on W t body first start s b loop id place under here h

body_on : (W : List Column → Type 0) (t : TypedProgram) (body : TypedBlock) (first start : ℕ) (todo : List Todo) (here : Point) → TodoWrites W todo → GoesOn W t (body_action t.procs body first start todo here)
body_on W t body first start [] here h = tt
body_on W t body first start (d ∷ ds) here h = block_on W t body first start d.rest d.of_loop d.id d.at ds here h

entry_on : (W : List Column → Type 0) (t : TypedProgram) (i more : Option TypedInvariant) (here : Point) → GoesOn W t (entry_action i more here)
entry_on W t None more here = tt
entry_on W t (Some i) None here = tt
entry_on W t (Some i) (Some j) here = tt

start_on : (W : List Column → Type 0) (t : TypedProgram) (e more : Option TypedExpression) (here first : Point) → GoesOn W t (start_action e more here first)
start_on W t None more here first = tt
start_on W t (Some e) None here first = tt
start_on W t (Some e) (Some d) here first = tt

-- ---- stages

abbrev pub IsNoExit : Stage → Type 0
IsNoExit Start = Unit {0}
IsNoExit Entry = Unit {0}
IsNoExit Body = Unit {0}
IsNoExit Exit = ⊥

pub stage_on : (W : List Column → Type 0) (t : TypedProgram) (n : ℕ) (q : TypedProcedure) (b : TypedBlock) (s : Stage) (here : Point) → IsNoExit s → TodoWrites W here.todo → GoesOn W t (stage_action t n q b s here)
stage_on W t n q b Start here h k =
    start_on W t (slice_get (start_conditions t q) here.part) (slice_get (start_conditions t q) (here.part + 1)) here (first_point q b (first_assertion t.procs n) (first_place t n))
stage_on W t n q b Entry here h k = entry_on W t (slice_get (free_conditions q.specs) here.part) (slice_get (free_conditions q.specs) (here.part + 1)) here
stage_on W t n q b Body here h k = body_on W t b (first_assertion t.procs n) (first_place t n + length (free_conditions q.specs)) here.todo here k
stage_on W t n q b Exit here h k = absurd h

-- nothing may be asked
abbrev pub Anything : List Column → Type 0
Anything cs = Unit {0}

anything_written : (s : TypedStatement) → StatementWrites Anything s
anything_written (Assert at e) = tt
anything_written (Assume at e) = tt
anything_written (Havoc at cs) = tt
anything_written (Assign at cs es) = tt
anything_written (Call at cs f es) = tt
anything_written (If at g x y) = tt
anything_written (While at g is x) = tt
anything_written (Break at n) = tt
anything_written (Goto at ks) = tt
anything_written (Return at) = tt
anything_written (Label n) = tt

block_anything : (b : TypedBlock) → BlockWrites Anything b
block_anything Empty = tt
block_anything (Then s b) = anything_written s

todo_anything : (todo : List Todo) → TodoWrites Anything todo
todo_anything [] = tt
todo_anything (d ∷ ds) = block_anything d.rest

-- ---- the stages of points

pub part_back : (p : Point) (k n : ℕ) (r : Point) → IsOneOf (parts_from p k n) r → (i : ℕ) × (k ≤ i) × (i < k + n) × (r ≡ record p { part = i })
part_back p k zero r m = absurd m
part_back p k (suc n) r (inl e) = (k, omega arith, omega arith, sym e)
part_back p k (suc n) r (inr m) =
    let h = part_back p (k + 1) n r m in
    let lower : k + 1 ≤ h.0 = h.1 in
    let upper : h.0 < k + 1 + n = h.2 in
    (h.0, omega arith, omega arith, h.3)

here_or_later : (k i : ℕ) → k ≤ i → (k ≡ i) ⊎ (k + 1 ≤ i)
here_or_later zero zero l = inl refl
here_or_later zero (suc i) l = inr (omega arith)
here_or_later (suc k) zero l = absurd (omega arith)
here_or_later (suc k) (suc i) l = elim (here_or_later k i (omega arith)) [ inl e ↦ inl (ap suc e) | inr h ↦ inr (omega (arith, h)) ]

either_part : (p : Point) (k n i : ℕ) → (k ≡ i) ⊎ (k + 1 ≤ i) → (k + 1 ≤ i → IsOneOf (parts_from p (k + 1) n) (record p { part = i })) → IsOneOf (parts_from p k (suc n)) (record p { part = i })
either_part p k n i (inl e) rest = inl (ap (λ (j : ℕ). record p { part = j }) e)
either_part p k n i (inr h) rest = inr (rest h)

pub part_so : (p : Point) (k n i : ℕ) → k ≤ i → i < k + n → IsOneOf (parts_from p k n) (record p { part = i })
part_so p k zero i l u = absurd (omega arith)
part_so p k (suc n) i l u = either_part p k n i (here_or_later k i l) (λ h. part_so p (k + 1) n i h (omega arith))

-- a point of a list of parts has the stage of the point
parts_stage : (p : Point) (k n : ℕ) (r : Point) → IsNoExit p.stage → IsOneOf (parts_from p k n) r → IsNoExit r.stage
parts_stage p k n r h m =
    let i = part_back p k n r m in
    subst (λ (x : Point). IsNoExit x.stage) (sym i.3) h

only : (r p : Point) → IsNoExit p.stage → IsOneOf (p ∷ []) r → IsNoExit r.stage
only r p h (inl e) = subst (λ (x : Point). IsNoExit x.stage) e h
only r p h (inr m) = absurd m

mutual
  in_body : (procs : List TypedProcedure) (s : TypedStatement) (b : TypedBlock) (loop : Bool) (id at : ℕ) (under : List Todo) (r : Point) → IsOneOf (points_in procs s b loop id at under) r → IsNoExit r.stage
  in_body procs (Assert span e) b loop id at under r m = only r (at_statement (Assert span e) b loop id at under) tt m
  in_body procs (Assume span e) b loop id at under r m = only r (at_statement (Assume span e) b loop id at under) tt m
  in_body procs (Havoc span cs) b loop id at under r m = parts_stage (at_statement (Havoc span cs) b loop id at under) 0 (length cs) r tt m
  in_body procs (Assign span cs es) b loop id at under r m = only r (at_statement (Assign span cs es) b loop id at under) tt m
  in_body procs (Call span cs f es) b loop id at under r m = parts_stage (at_statement (Call span cs f es) b loop id at under) 0 (checked_at_call (slice_get procs f) + 1) r tt m
  in_body procs (If span g x y) b loop id at under r m =
      let after : List Todo = past procs (If span g x y) b loop id at ∷ under in
      let xs : List Point = points_of procs x false id (at + 1) after in
      let ys : List Point = points_of procs y false (id + block_assertions procs x) (at + 1 + block_points procs x) after in
      elim m [
        | inl e ↦ subst (λ (p : Point). IsNoExit p.stage) e tt
        | inr h ↦ elim (point_either xs ys r h) [
          | inl i ↦ in_block procs x false id (at + 1) after r i
          | inr i ↦ in_block procs y false (id + block_assertions procs x) (at + 1 + block_points procs x) after r i
        ]
      ]
  in_body procs (While span g is x) b loop id at under r m =
      let here : Todo = record { rest = Then (While span g is x) b; of_loop = loop; id = id; at = at } in
      elim (point_either (parts_from (before (here ∷ under)) 0 (length is + 1)) (points_of procs x true (id + plain_invariants is) (at + length is + 1) (here ∷ under)) r m) [
        | inl i ↦ parts_stage (before (here ∷ under)) 0 (length is + 1) r tt i
        | inr i ↦ in_block procs x true (id + plain_invariants is) (at + length is + 1) (here ∷ under) r i
      ]
  in_body procs (Break span k) b loop id at under r m = only r (at_statement (Break span k) b loop id at under) tt m
  in_body procs (Goto span ks) b loop id at under r m = only r (at_statement (Goto span ks) b loop id at under) tt m
  in_body procs (Return span) b loop id at under r m = only r (at_statement (Return span) b loop id at under) tt m
  in_body procs (Label k) b loop id at under r m = absurd m

  in_block : (procs : List TypedProcedure) (b : TypedBlock) (loop : Bool) (id at : ℕ) (under : List Todo) (r : Point) → IsOneOf (points_of procs b loop id at under) r → IsNoExit r.stage
  in_block procs Empty loop id at under r m = absurd m
  in_block procs (Then s b) loop id at under r m =
      elim (point_either (points_in procs s b loop id at under) (points_of procs b loop (id + assertions procs s) (at + points procs s) under) r m) [
        | inl i ↦ in_body procs s b loop id at under r i
        | inr i ↦ in_block procs b loop (id + assertions procs s) (at + points procs s) under r i
      ]

-- a point of a body is behind its statements, or does not stand at the exit
behind_or_not : (t : TypedProgram) (n : ℕ) (q : TypedProcedure) (b : TypedBlock) (r : Point) → IsOneOf (points_of_body t n q b) r →
    IsNoExit r.stage ⊎ ((i : ℕ) × (i ≤ length (ensured_conditions q.specs)) × (r ≡ record at_exit { part = i }))
behind_or_not t n q b r m =
    let free : ℕ = length (free_conditions q.specs) in
    let whole : Todo = record { rest = b; of_loop = false; id = first_assertion t.procs n; at = first_place t n + free } in
    let entry : Point = record { stage = Entry; todo = whole ∷ []; part = 0 } in
    let inner : List Point = points_of t.procs b false (first_assertion t.procs n) (first_place t n + free) [] in
    let exits : List Point = parts_from at_exit 0 (length (ensured_conditions q.specs) + 1) in
    elim (point_either (parts_from entry 0 free) (inner ++ exits) r m) [
      | inl i ↦ inl (parts_stage entry 0 free r tt i)
      | inr h ↦ elim (point_either inner exits r h) [
        | inl i ↦ inl (in_block t.procs b false (first_assertion t.procs n) (first_place t n + free) [] r i)
        | inr i ↦ (let g = part_back at_exit 0 (length (ensured_conditions q.specs) + 1) r i in
            let upper : g.0 < 0 + (length (ensured_conditions q.specs) + 1) = g.2 in
            inr (g.0, (let e : g.0 ≤ length (ensured_conditions q.specs) = omega arith in e), g.3))
      ]
    ]

-- a known point does not stand at the exit, or is behind all statements
pub known_stage : (t : TypedProgram) (n : ℕ) (p : Point) → (k : IsKnown t n p) →
    IsNoExit p.stage ⊎ ((i : ℕ) × (i ≤ length (ensured_conditions k.procedure.specs)) × (p ≡ record at_exit { part = i }))
known_stage t n p k = elim k.stands [
  | inl h ↦ inl (parts_stage (record { stage = Start; todo = []; part = 0 }) 0 (length (start_conditions t k.procedure)) p tt h.1)
  | inr h ↦ behind_or_not t n k.procedure k.body p h
]

-- ---- the action at a known point

pub action_is : (t : TypedProgram) (n : ℕ) (q : TypedProcedure) (b : TypedBlock) (p : Point) → slice_get t.procs n ≡ Some q → q.body ≡ Some b → action_at t n p ≡ stage_action t n q b p.stage p
action_is t n q b p e k = ap (λ (o : Option TypedProcedure). procedure_action t n o p) e ∙ ap (λ (o : Option TypedBlock). body_or_leave t n q o p) k

-- an action at the exit enters no procedure
enters_none : (t : TypedProgram) (o : Option TypedInvariant) (id : ℕ) (here : Point) (f : ℕ) (args : List TypedExpression) → exit_action o id here ≡ actions.Enter f args → ⊥
enters_none t None id here f args e = cc
enters_none t (Some i) id here f args e = by_free i.free e
  where
    by_free : (free : Bool) → checked free id i.span i.cond (next_part here) ≡ actions.Enter f args → ⊥
    by_free true e = cc
    by_free false e = cc

-- a procedure that is entered has a body
pub entered_has_body : (t : TypedProgram) (n : ℕ) (p : Point) (f : ℕ) (args : List TypedExpression) → IsKnown t n p → action_at t n p ≡ actions.Enter f args →
    (q : TypedProcedure) × (b : TypedBlock) × (slice_get t.procs f ≡ Some q) × (q.body ≡ Some b)
entered_has_body t n p f args k e =
    let stage : stage_action t n k.procedure k.body p.stage p ≡ actions.Enter f args = sym (action_is t n k.procedure k.body p k.is k.has_body) ∙ e in
    elim (known_stage t n p k) [
      | inl h ↦ subst (GoesOn Anything t) stage (stage_on Anything t n k.procedure k.body p.stage p h (todo_anything p.todo))
      | inr h ↦ (let here : Point = record at_exit { part = h.0 } in
          let at : stage_action t n k.procedure k.body Exit here ≡ actions.Enter f args = subst (λ (r : Point). stage_action t n k.procedure k.body r.stage r ≡ actions.Enter f args) h.2 stage in
          absurd (enters_none t (slice_get (ensured_conditions k.procedure.specs) h.0)
          (first_assertion t.procs n + (block_assertions t.procs k.body + plain_invariants (take h.0 (ensured_conditions k.procedure.specs)))) here f args at))
    ]

-- ---- returns

none_past : {X : Type 0} (xs : List X) → slice_get xs (length xs) ≡ None
none_past [] = refl
none_past (x ∷ xs) = none_past xs

past_none : {X : Type 0} (xs : List X) (i : ℕ) → i ≤ length xs → slice_get xs i ≡ None → i ≡ length xs
past_none [] i l e = omega arith
past_none (x ∷ xs) zero l e = absurd (cc)
past_none (x ∷ xs) (suc i) l e = ap suc (past_none xs i (omega arith) e)

left_by : (o : Option TypedInvariant) (id : ℕ) (here : Point) → exit_action o id here ≡ actions.Leave → o ≡ None
left_by None id here e = refl
left_by (Some i) id here e = by_free i.free e
  where
    by_free : (free : Bool) → checked free id i.span i.cond (next_part here) ≡ actions.Leave → Some i ≡ None
    by_free true e = absurd (cc)
    by_free false e = absurd (cc)

no_leave : (t : TypedProgram) (a : Action) → GoesOn Anything t a → a ≡ actions.Leave → ⊥
no_leave t a h e = subst (GoesOn Anything t) e h

-- a procedure returns at its place of return alone
pub leaves_at : (t : TypedProgram) (n : ℕ) (p : Point) → IsKnown t n p → action_at t n p ≡ actions.Leave → p ≡ return_point (slice_get t.procs n)
leaves_at t n p k e =
    let stage : stage_action t n k.procedure k.body p.stage p ≡ actions.Leave = sym (action_is t n k.procedure k.body p k.is k.has_body) ∙ e in
    let ensured : List TypedInvariant = ensured_conditions k.procedure.specs in
    elim (known_stage t n p k) [
      | inl h ↦ absurd (no_leave t (stage_action t n k.procedure k.body p.stage p) (stage_on Anything t n k.procedure k.body p.stage p h (todo_anything p.todo)) stage)
      | inr h ↦ (let here : Point = record at_exit { part = h.0 } in
          let at : stage_action t n k.procedure k.body Exit here ≡ actions.Leave = subst (λ (r : Point). stage_action t n k.procedure k.body r.stage r ≡ actions.Leave) h.2 stage in
          let none : slice_get ensured h.0 ≡ None = left_by (slice_get ensured h.0) (first_assertion t.procs n + (block_assertions t.procs k.body + plain_invariants (take h.0 ensured))) here at in
          let last : h.0 ≡ length ensured = past_none ensured h.0 h.1 none in
          h.2 ∙ ap (λ (i : ℕ). record at_exit { part = i }) last ∙ sym (ap return_point k.is))
    ]

-- at the place of return of a procedure with a body
pub leaves_there : (t : TypedProgram) (f : ℕ) (q : TypedProcedure) (b : TypedBlock) → slice_get t.procs f ≡ Some q → q.body ≡ Some b → action_at t f (return_point (slice_get t.procs f)) ≡ actions.Leave
leaves_there t f q b e k =
    let ensured : List TypedInvariant = ensured_conditions q.specs in
    let here : Point = record at_exit { part = length ensured } in
    let to : action_at t f here ≡ stage_action t f q b Exit here = action_is t f q b here e k in
    let leave : stage_action t f q b Exit here ≡ actions.Leave =
    ap (λ (o : Option TypedInvariant). exit_action o (first_assertion t.procs f + (block_assertions t.procs b + plain_invariants (take (length ensured) ensured))) here) (none_past ensured) in
    ap (action_at t f) (ap return_point e) ∙ to ∙ leave

-- it is known
pub return_known : (t : TypedProgram) (f : ℕ) (q : TypedProcedure) (b : TypedBlock) → slice_get t.procs f ≡ Some q → q.body ≡ Some b → IsKnown t f (return_point (slice_get t.procs f))
return_known t f q b e k =
    let free : ℕ = length (free_conditions q.specs) in
    let ensured : ℕ = length (ensured_conditions q.specs) in
    let whole : Todo = record { rest = b; of_loop = false; id = first_assertion t.procs f; at = first_place t f + free } in
    let entries : List Point = parts_from (record { stage = Entry; todo = whole ∷ []; part = 0 }) 0 free in
    let inner : List Point = points_of t.procs b false (first_assertion t.procs f) (first_place t f + free) [] in
    let exits : List Point = parts_from at_exit 0 (ensured + 1) in
    let last : IsOneOf exits (record at_exit { part = ensured }) = part_so at_exit 0 (ensured + 1) ensured (omega arith) (omega arith) in
    let stands : IsOneOf (points_of_body t f q b) (record at_exit { part = ensured }) =
    point_rest entries (inner ++ exits) (record at_exit { part = ensured }) (point_rest inner exits (record at_exit { part = ensured }) last) in
    record { procedure = q; body = b; is = e; has_body = k; stands = inr (subst (IsOneOf (points_of_body t f q b)) (sym (ap return_point e)) stands) }

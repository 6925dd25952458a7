-- What was shown at a call: its requires are asserted one after another, in one state, and then the procedure is entered.
use Rattle.std.proofs.Common.{◌≡◌, ◌∙◌, ◌⊎◌, ℕ, ◌+◌, ◌-◌, ◌<◌, Bool, true, false, ℤ, List, [], ◌∷◌, length, take, Option, None, Some, inl, inr, refl, sym, ap, subst, arith, if◌then◌else◌}
use Rattle.std.specs.Prelude.{slice_get, unsigned_abs}
use Rattle.std.specs.List.{AllByRecursion}
use Rattle.std.proofs.lemmas.Bool.{cases_lt}
use Rattle.boogie_tree.specs.declared.span.Span.{Span}
use Rattle.boogie_tree.specs.declared.tree.Column.{Column}
use Rattle.typed_tree.specs.TypedTree.{TypedExpression, TypedGuard, Any, Cond, TypedInvariant, TypedStatement, Assert, Assume, Havoc, Assign, Call, If, While, Break, Goto, Return, Label, TypedBlock, Empty, Then, TypedProcedure, TypedProgram}
use Rattle.typed_tree.specs.Values.{State, value}
use Rattle.typed_tree.specs.TypingRules.Counts.{block_assertions, block_points, plain_invariants}
use Rattle.boogie_run.specs.BoogiePoints.Points.{Todo, Stage, Start, Entry, Body, Exit, Point, unless_ended, settled, past, broken, found_block}
use Rattle.boogie_run.specs.BoogiePoints.Actions as actions
use Rattle.boogie_run.specs.BoogiePoints.Actions.{Action, next_part, guarded, checked, plain_conditions, free_conditions, ensured_conditions, unseen_action, called_action, call_action, call_if_any, head_action, point_behind, havoc_action, one_of, ways_to, statement_action, block_action, body_action, entry_point, first_point, entry_action, exit_action, start_conditions, start_action, first_assertion, first_place, stage_action, body_or_leave, procedure_action, action_at}
use Rattle.boogie_run.specs.Configurations.{Config, state_of}
use Rattle.boogie_run.specs.Steps.{Went, Blocked, Failed, act, values, passed_state, is_true, moved_to, all_written, written}
use Rattle.lowered_graph.proofs.LoweredRuns.Taken.{went_if_true, went_way, all_at}
use Rattle.lowered_graph.specs.LoweredImports.KnownPoints.{IsPointOf}
use Rattle.explained_proof.proofs.KnownRuns.Staying.{IsSteady}

-- ---- the requires that are shown at a point

abbrev claims_of_callee : Option TypedProcedure → List TypedInvariant
claims_of_callee None = []
claims_of_callee (Some q) = plain_conditions q.specs

abbrev claims_of_block : List TypedProcedure → TypedBlock → List TypedInvariant
claims_of_block procs (Then (Call at cs f es) b) = claims_of_callee (slice_get procs f)
claims_of_block procs b = []

abbrev claims_of_stage : List TypedProcedure → Stage → List Todo → List TypedInvariant
claims_of_stage procs Body (d ∷ ds) = claims_of_block procs d.rest
claims_of_stage procs stage ds = []

-- at a call those that it asserts
abbrev pub claims : List TypedProcedure → Point → List TypedInvariant
claims procs p = claims_of_stage procs p.stage p.todo

abbrev claim_state_of_block : TypedBlock → State → State
claim_state_of_block (Then (Call at cs f es) b) s = passed_state s es
claim_state_of_block b s = s

abbrev claim_state_of_stage : Stage → List Todo → State → State
claim_state_of_stage Body (d ∷ ds) s = claim_state_of_block d.rest s
claim_state_of_stage stage ds s = s

-- the state in which they are read
abbrev pub claim_state : Point → State → State
claim_state p s = claim_state_of_stage p.stage p.todo s

-- those of the parts that are done are true
abbrev pub HeldAt : List TypedProcedure → Point → State → Type 0
HeldAt procs p s = (j : ℕ) (i : TypedInvariant) → j < p.part → slice_get (claims procs p) j ≡ Some i → is_true (value (claim_state p s) i.cond) ≡ true

pub none_held : (procs : List TypedProcedure) (p : Point) (s : State) → p.part ≡ 0 → HeldAt procs p s
none_held procs p s z j i l found = absurd (omega arith)

-- ---- where actions lead

-- to the first part of a point, or to the next part of one where nothing is shown
abbrev Leaves : List TypedProcedure → Point → Point → Type 0
Leaves procs here next = (next.part ≡ 0) ⊎ ((next ≡ next_part here) × (claims procs here ≡ []))

-- the point stands at a call of procedure f, of which all requires are shown
pub record IsAtCall (procs : List TypedProcedure) (here : Point) (f : ℕ) (args : List TypedExpression) : Type 0 where
  pub callee : TypedProcedure
  pub is : slice_get procs f ≡ Some callee
  pub claims_are : claims procs here ≡ plain_conditions callee.specs
  pub state_is : (s : State) → claim_state here s ≡ passed_state s args
  pub done : slice_get (plain_conditions callee.specs) here.part ≡ None

-- a requires that is shown: it is the one of this part
pub record IsShown (procs : List TypedProcedure) (here : Point) (e : TypedExpression) (args : List TypedExpression) (next : Point) : Type 0 where
  pub next_is : next ≡ next_part here
  pub claim : (i : TypedInvariant) → slice_get (claims procs here) here.part ≡ Some i → i.cond ≡ e
  pub state_is : (s : State) → claim_state here s ≡ passed_state s args

abbrev Parts : List TypedProcedure → Point → Action → Type 0
Parts procs here (actions.Check id at e next) = Leaves procs here next
Parts procs here (actions.Suppose e next) = Leaves procs here next
Parts procs here (actions.Demand id at e args next) = IsShown procs here e args next
Parts procs here (actions.Write cs es next) = Leaves procs here next
Parts procs here (actions.Guess c next) = Leaves procs here next
Parts procs here (actions.Test e hit miss) = (hit.part ≡ 0) × (miss.part ≡ 0)
Parts procs here (actions.Pick ways) = AllByRecursion (λ p. p.part ≡ 0) ways
Parts procs here (actions.Jump next) = next.part ≡ 0
Parts procs here (actions.Enter f args) = IsAtCall procs here f args
Parts procs here (actions.Keep f args c next) = Unit {0}
Parts procs here (actions.Grant f args e next) = Unit {0}
Parts procs here (actions.Finish f args targets next) = Unit {0}
Parts procs here actions.Leave = Unit {0}

-- ---- points begin with their first part

ended_part : (b : TypedBlock) (l : Bool) (id at : ℕ) (under : List Todo) (after : Point) → after.part ≡ 0 → (unless_ended b l id at under after).part ≡ 0
ended_part Empty l id at under after z = z
ended_part (Then (Assert span e) b) l id at under after z = refl
ended_part (Then (Assume span e) b) l id at under after z = refl
ended_part (Then (Havoc span cs) b) l id at under after z = refl
ended_part (Then (Assign span cs es) b) l id at under after z = refl
ended_part (Then (Call span cs f es) b) l id at under after z = refl
ended_part (Then (If span g x y) b) l id at under after z = refl
ended_part (Then (While span g is x) b) l id at under after z = refl
ended_part (Then (Break span n) b) l id at under after z = refl
ended_part (Then (Goto span ks) b) l id at under after z = refl
ended_part (Then (Return span) b) l id at under after z = refl
ended_part (Then (Label n) b) l id at under after z = ended_part b l id at under after z

pub settled_part : (ds : List Todo) → (settled ds).part ≡ 0
settled_part [] = refl
settled_part (d ∷ ds) = ended_part d.rest d.of_loop d.id d.at ds (settled ds) (settled_part ds)

behind_part : (o : Option (List Todo)) → (point_behind o).part ≡ 0
behind_part None = refl
behind_part (Some ds) = settled_part ds

ways_part : (procs : List TypedProcedure) (body : TypedBlock) (id at : ℕ) (ks : List ℕ) → AllByRecursion (λ p. p.part ≡ 0) (ways_to procs body id at ks)
ways_part procs body id at [] = tt
ways_part procs body id at (k ∷ ks) = (behind_part (found_block procs k body false id at []), ways_part procs body id at ks)

pub entry_part : (is : List TypedInvariant) (d : Todo) → (entry_point is d).part ≡ 0
entry_part [] d = settled_part (d ∷ [])
entry_part (i ∷ is) d = refl

-- ---- the actions of points

module _ (procs : List TypedProcedure) where
  checked_parts : (here : Point) (free : Bool) (id : ℕ) (at : Span) (e : TypedExpression) (next : Point) → Leaves procs here next → Parts procs here (checked free id at e next)
  checked_parts here true id at e next h = h
  checked_parts here false id at e next h = h

  guarded_parts : (here : Point) (g : TypedGuard) (hit miss : Point) → hit.part ≡ 0 → miss.part ≡ 0 → Parts procs here (guarded g hit miss)
  guarded_parts here Any hit miss h m = (h, (m, tt))
  guarded_parts here (Cond e) hit miss h m = (h, m)

  head_parts : (here : Point) (o : Option TypedInvariant) (id : ℕ) (guard : Action) → claims procs here ≡ [] → Parts procs here guard → Parts procs here (head_action o id here guard)
  head_parts here None id guard c h = h
  head_parts here (Some i) id guard c h = checked_parts here i.free id i.span i.cond (next_part here) (inr (refl, c))

  havoc_parts : (here : Point) (o m : Option Column) (after : Point) → claims procs here ≡ [] → after.part ≡ 0 → Parts procs here (havoc_action o m here after)
  havoc_parts here None m after c z = z
  havoc_parts here (Some x) None after c z = inl z
  havoc_parts here (Some x) (Some y) after c z = inr (refl, c)

  one_parts : (here : Point) (ways : List Point) → AllByRecursion (λ p. p.part ≡ 0) ways → Parts procs here (one_of ways)
  one_parts here [] h = refl
  one_parts here (p ∷ []) h = h.0
  one_parts here (p ∷ q ∷ ps) h = h

  unseen_parts : (here : Point) (o : Option Column) (i : Option TypedInvariant) (f : ℕ) (targets : List Column) (args : List TypedExpression) (h next : Point) → Parts procs here (unseen_action o i f targets args h next)
  unseen_parts here (Some c) i f targets args h next = tt
  unseen_parts here None (Some i) f targets args h next = tt
  unseen_parts here None None f targets args h next = tt

  -- at a call
  module _ (at : Span) (cs : List Column) (f : ℕ) (es : List TypedExpression) (b : TypedBlock) (l : Bool) (id place : ℕ) (ds : List Todo) (k : ℕ) where
    abbrev here : Point
    here = record { stage = Body; todo = record { rest = Then (Call at cs f es) b; of_loop = l; id = id; at = place } ∷ ds; part = k }

    called_parts : (q : TypedProcedure) (o : Option TypedBlock) (done : ℕ) (next : Point) → slice_get procs f ≡ Some q → slice_get (plain_conditions q.specs) k ≡ None →
        Parts procs here (called_action f q o cs es done here next)
    called_parts q None done next is none = unseen_parts here _ _ f cs es here next
    called_parts q (Some x) done next is none = record { callee = q; is = is; claims_are = ap claims_of_callee is; state_is = λ s. refl; done = none }

    call_parts : (q : TypedProcedure) (o : Option TypedInvariant) (n done : ℕ) (next : Point) → slice_get procs f ≡ Some q → slice_get (plain_conditions q.specs) k ≡ o →
        Parts procs here (call_action o n f q at cs es done here next)
    call_parts q None n done next is e = called_parts q q.body done next is e
    call_parts q (Some i) n done next is e = record {
      next_is = refl;
      claim = λ j found. let one : Some i ≡ Some j = sym e ∙ ap (λ (o : Option TypedProcedure). slice_get (claims_of_callee o) k) (sym is) ∙ found in let same : j ≡ i = cc in ap (λ (x : TypedInvariant). x.cond) same;
      state_is = λ s. refl;
    }

    if_any_parts : (o : Option TypedProcedure) (next : Point) → slice_get procs f ≡ o → next.part ≡ 0 → Parts procs here (call_if_any o id f at cs es here next)
    if_any_parts None next is z = z
    if_any_parts (Some q) next is z = call_parts q (slice_get (plain_conditions q.specs) k) (id + k) (k - length (plain_conditions q.specs)) next is refl

  -- at a statement
  module _ (body : TypedBlock) (first start : ℕ) (l : Bool) (id place : ℕ) (ds : List Todo) (k : ℕ) where
    abbrev at_block : TypedBlock → Point
    at_block b = record { stage = Body; todo = record { rest = b; of_loop = l; id = id; at = place } ∷ ds; part = k }

    after_part : (s : TypedStatement) (b : TypedBlock) → (settled (past procs s b l id place ∷ ds)).part ≡ 0
    after_part s b = settled_part (past procs s b l id place ∷ ds)

    statement_parts : (s : TypedStatement) (b : TypedBlock) → Parts procs (at_block (Then s b)) (statement_action procs body first start s b l id place ds (at_block (Then s b)))
    statement_parts (Assert at e) b = inl (after_part (Assert at e) b)
    statement_parts (Assume at e) b = inl (after_part (Assume at e) b)
    statement_parts (Havoc at cs) b = havoc_parts (at_block (Then (Havoc at cs) b)) (slice_get cs k) (slice_get cs (k + 1)) (settled (past procs (Havoc at cs) b l id place ∷ ds)) refl (after_part (Havoc at cs) b)
    statement_parts (Assign at cs es) b = inl (after_part (Assign at cs es) b)
    statement_parts (Call at cs f es) b = if_any_parts at cs f es b l id place ds k (slice_get procs f) (settled (past procs (Call at cs f es) b l id place ∷ ds)) refl (after_part (Call at cs f es) b)
    statement_parts (If at g x y) b =
        let after : List Todo = past procs (If at g x y) b l id place ∷ ds in
        let hit : Todo = record { rest = x; of_loop = false; id = id; at = place + 1 } in
        let miss : Todo = record { rest = y; of_loop = false; id = id + block_assertions procs x; at = place + 1 + block_points procs x } in
        guarded_parts (at_block (Then (If at g x y) b)) g (settled (hit ∷ after)) (settled (miss ∷ after)) (settled_part (hit ∷ after)) (settled_part (miss ∷ after))
    statement_parts (While at g is x) b =
        let here : Point = at_block (Then (While at g is x) b) in
        let inside : Todo = record { rest = x; of_loop = true; id = id + plain_invariants is; at = place + length is + 1 } in
        let miss : Point = settled (past procs (While at g is x) b l id place ∷ ds) in
        head_parts here (slice_get is k) (id + plain_invariants (take k is)) (guarded g (settled (inside ∷ here.todo)) miss) refl
        (guarded_parts here g (settled (inside ∷ here.todo)) miss (settled_part (inside ∷ here.todo)) (after_part (While at g is x) b))
    statement_parts (Break at n) b = settled_part (broken procs n (record { rest = Then (Break at n) b; of_loop = l; id = id; at = place } ∷ ds))
    statement_parts (Goto at ks) b = one_parts (at_block (Then (Goto at ks) b)) (ways_to procs body first start ks) (ways_part procs body first start ks)
    statement_parts (Return at) b = refl
    statement_parts (Label n) b = after_part (Label n) b

    block_parts : (b : TypedBlock) → Parts procs (at_block b) (block_action procs body first start b l id place ds (at_block b))
    block_parts Empty = refl
    block_parts (Then s b) = statement_parts s b

  body_parts : (body : TypedBlock) (first start : ℕ) (ds : List Todo) (k : ℕ) →
      Parts procs (record { stage = Body; todo = ds; part = k }) (body_action procs body first start ds (record { stage = Body; todo = ds; part = k }))
  body_parts body first start [] k = refl
  body_parts body first start (d ∷ ds) k = block_parts body first start d.of_loop d.id d.at ds k d.rest

start_parts : (procs : List TypedProcedure) (ds : List Todo) (k : ℕ) (o m : Option TypedExpression) (first : Point) → first.part ≡ 0 →
    Parts procs (record { stage = Start; todo = ds; part = k }) (start_action o m (record { stage = Start; todo = ds; part = k }) first)
start_parts procs ds k None m first z = z
start_parts procs ds k (Some e) None first z = inl z
start_parts procs ds k (Some e) (Some d) first z = inr (refl, refl)

entry_parts : (procs : List TypedProcedure) (ds : List Todo) (k : ℕ) (o m : Option TypedInvariant) →
    Parts procs (record { stage = Entry; todo = ds; part = k }) (entry_action o m (record { stage = Entry; todo = ds; part = k }))
entry_parts procs ds k None m = settled_part ds
entry_parts procs ds k (Some i) None = inl (settled_part ds)
entry_parts procs ds k (Some i) (Some j) = inr (refl, refl)

exit_parts : (procs : List TypedProcedure) (ds : List Todo) (k : ℕ) (o : Option TypedInvariant) (id : ℕ) →
    Parts procs (record { stage = Exit; todo = ds; part = k }) (exit_action o id (record { stage = Exit; todo = ds; part = k }))
exit_parts procs ds k None id = tt
exit_parts procs ds k (Some i) id =
    checked_parts procs (record { stage = Exit; todo = ds; part = k }) i.free id i.span i.cond (next_part (record { stage = Exit; todo = ds; part = k })) (inr (refl, refl))

stage_parts : (t : TypedProgram) (n : ℕ) (q : TypedProcedure) (b : TypedBlock) (stage : Stage) (ds : List Todo) (k : ℕ) →
    Parts t.procs (record { stage = stage; todo = ds; part = k }) (stage_action t n q b stage (record { stage = stage; todo = ds; part = k }))
stage_parts t n q b Start ds k =
    start_parts t.procs ds k (slice_get (start_conditions t q) k) (slice_get (start_conditions t q) (k + 1)) (first_point q b (first_assertion t.procs n) (first_place t n))
    (entry_part (free_conditions q.specs) (record { rest = b; of_loop = false; id = first_assertion t.procs n; at = first_place t n + length (free_conditions q.specs) }))
stage_parts t n q b Entry ds k = entry_parts t.procs ds k (slice_get (free_conditions q.specs) k) (slice_get (free_conditions q.specs) (k + 1))
stage_parts t n q b Body ds k = body_parts t.procs b (first_assertion t.procs n) (first_place t n + length (free_conditions q.specs)) ds k
stage_parts t n q b Exit ds k =
    exit_parts t.procs ds k (slice_get (ensured_conditions q.specs) k)
    (first_assertion t.procs n + (block_assertions t.procs b + plain_invariants (take k (ensured_conditions q.specs))))

pub parts_of : (t : TypedProgram) (n : ℕ) (p : Point) → IsPointOf t n p → Parts t.procs p (action_at t n p)
parts_of t n p k =
    let acts : action_at t n p ≡ stage_action t n k.procedure k.body p.stage p =
    ap (λ (o : Option TypedProcedure). procedure_action t n o p) k.is ∙ ap (λ (o : Option TypedBlock). body_or_leave t n k.procedure o p) k.has in
    subst (Parts t.procs p) (sym acts) (stage_parts t n k.procedure k.body p.stage p.todo p.part)

-- where a procedure is entered all its requires are shown
pub at_call : (t : TypedProgram) (n : ℕ) (p : Point) (f : ℕ) (args : List TypedExpression) → IsPointOf t n p → action_at t n p ≡ actions.Enter f args → IsAtCall t.procs p f args
at_call t n p f args k e = subst (Parts t.procs p) e (parts_of t n p k)

-- ---- what stays shown

-- where nothing is shown, or not yet
left_held : (procs : List TypedProcedure) (here next : Point) (s : State) → Leaves procs here next → HeldAt procs next s
left_held procs here next s (inl z) = none_held procs next s z
left_held procs here next s (inr (e, none)) = subst (λ (x : Point). HeldAt procs x s) (sym e) nothing
  where
    nothing : HeldAt procs (next_part here) s
    nothing j i l found = let at_none : slice_get [] j ≡ Some i = sym (ap (λ (xs : List TypedInvariant). slice_get xs j) none) ∙ found in absurd (cc)

shown_held : (procs : List TypedProcedure) (here next : Point) (e : TypedExpression) (args : List TypedExpression) (s : State) → IsShown procs here e args next → is_true (value (passed_state s args) e) ≡ true →
    HeldAt procs here s → HeldAt procs next s
shown_held procs here next e args s h true_is held = subst (λ (x : Point). HeldAt procs x s) (sym h.next_is) more
  where
    more : HeldAt procs (next_part here) s
    more j i l found = elim (cases_lt j here.part) [
      | inl less ↦ held j i less found
      | inr most ↦ (let last : j ≡ here.part = omega arith in
          let is : i.cond ≡ e = h.claim i (sym (ap (slice_get (claims procs here)) last) ∙ found) in
          (λ x. is_true (value (h.state_is s x) (is x))) ∙ true_is)
    ]

either_part : (b : Bool) (hit miss : Point) → hit.part ≡ 0 → miss.part ≡ 0 → (if b then hit else miss).part ≡ 0
either_part true hit miss h m = h
either_part false hit miss h m = m

act_held : (procs : List TypedProcedure) (t : TypedProgram) (c d : Config) (v : ℤ) (a : Action) → Parts procs c.top.point a → act t c v a ≡ Went d → IsSteady a → HeldAt procs c.top.point (state_of c) → HeldAt procs d.top.point (state_of d)
act_held procs t c d v (actions.Check id at e next) p went steady held =
    let h = went_if_true (is_true (value (state_of c) e)) (moved_to c next) d (Failed id) (λ x. cc) went in
    subst (λ (x : Config). HeldAt procs x.top.point (state_of x)) h.same (left_held procs c.top.point next (state_of c) p)
act_held procs t c d v (actions.Suppose e next) p went steady held =
    let h = went_if_true (is_true (value (state_of c) e)) (moved_to c next) d Blocked (λ x. cc) went in
    subst (λ (x : Config). HeldAt procs x.top.point (state_of x)) h.same (left_held procs c.top.point next (state_of c) p)
act_held procs t c d v (actions.Demand id at e args next) p went steady held =
    let h = went_if_true (is_true (value (passed_state (state_of c) args) e)) (moved_to c next) d (Failed id) (λ x. cc) went in
    subst (λ (x : Config). HeldAt procs x.top.point (state_of x)) h.same (shown_held procs c.top.point next e args (state_of c) p h.true_is held)
act_held procs t c d v (actions.Write cs es next) p went steady held =
    let x : Config = moved_to (all_written c cs (values (state_of c) es)) next in
    let same : x ≡ d = cc in
    subst (λ (y : Config). HeldAt procs y.top.point (state_of y)) same (left_held procs c.top.point next (state_of x) p)
act_held procs t c d v (actions.Guess y next) p went steady held =
    let x : Config = moved_to (written c y v) next in
    let same : x ≡ d = cc in
    subst (λ (z : Config). HeldAt procs z.top.point (state_of z)) same (left_held procs c.top.point next (state_of x) p)
act_held procs t c d v (actions.Test e hit miss) p went steady held =
    let next : Point = if is_true (value (state_of c) e) then hit else miss in
    let same : moved_to c next ≡ d = cc in
    subst (λ (x : Config). HeldAt procs x.top.point (state_of x)) same (none_held procs next (state_of c) (either_part (is_true (value (state_of c) e)) hit miss p.0 p.1))
act_held procs t c d v (actions.Pick ways) p went steady held =
    let h = went_way (slice_get ways (unsigned_abs v)) c d went in
    subst (λ (x : Config). HeldAt procs x.top.point (state_of x)) h.same (none_held procs h.way (state_of c) (all_at (λ x. x.part ≡ 0) ways (unsigned_abs v) h.way p h.is))
act_held procs t c d v (actions.Jump next) p went steady held =
    let same : moved_to c next ≡ d = cc in
    subst (λ (x : Config). HeldAt procs x.top.point (state_of x)) same (none_held procs next (state_of c) p)
act_held procs t c d v (actions.Enter f args) p went steady held = absurd steady
act_held procs t c d v (actions.Keep f args x next) p went steady held = absurd steady
act_held procs t c d v (actions.Grant f args e next) p went steady held = absurd steady
act_held procs t c d v (actions.Finish f args targets next) p went steady held = absurd steady
act_held procs t c d v actions.Leave p went steady held = absurd steady

-- an action of the frame itself
pub acts_held : (t : TypedProgram) (c d : Config) (v : ℤ) → IsPointOf t c.top.proc c.top.point → act t c v (action_at t c.top.proc c.top.point) ≡ Went d → IsSteady (action_at t c.top.proc c.top.point) →
    HeldAt t.procs c.top.point (state_of c) → HeldAt t.procs d.top.point (state_of d)
acts_held t c d v k went steady held = act_held t.procs t c d v (action_at t c.top.proc c.top.point) (parts_of t c.top.proc c.top.point k) went steady held

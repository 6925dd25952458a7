-- At points that are the same the same happens, but a call of a procedure with a body is a call without body in the part.
use Rattle.std.proofs.Common.{◌≡◌, ◌⊎◌, inl, inr, ℕ, ◌+◌, ◌-◌, ℤ, Bool, true, false, not, ◌&&◌, List, [], ◌∷◌, length, take, Option, None, Some, slice_get, refl, sym, ap, subst, ◌∙◌}
use Rattle.std.specs.List.{AllByRecursion, list_all}
use Rattle.std.specs.Option.{option_map}
use Rattle.std.proofs.lemmas.Bool.{and_parts, false≢true}
use Rattle.boogie_tree.specs.declared.span.Span.{Span}
use Rattle.boogie_tree.specs.declared.tree.Column.{Column}
use Rattle.boogie_tree.specs.declared.tree.Column.TheVariants as columns
use Rattle.typed_tree.specs.TypedTree.{TypedExpression, TypedGuard, Any, Cond, TypedInvariant, TypedStatement, Assert, Assume, Havoc, Assign, Call, If, While, Break, Goto, Return, Label, TypedBlock, Empty, Then, TypedProcedure, TypedProgram}
use Rattle.typed_tree.specs.Values.{State, value}
use Rattle.typed_tree.specs.AffineForm.{is_empty}
use Rattle.typed_tree.specs.TypingRules.Counts.{assertions, points, block_assertions, block_points, plain_invariants}
use Rattle.typed_tree.specs.TypingRules.Rules.{Context, all_differ, same_column, is_member, meets, is_writable, are_targets, values_agree, arguments_agree, results_agree, params_of, results_of, is_call, is_statement, is_block}
use Rattle.boogie_run.specs.BoogiePoints.Points.{Todo, Stage, Start, Entry, Body, Exit, Point, at_exit, settled, past, broken}
use Rattle.boogie_run.specs.BoogiePoints.Actions as actions
use Rattle.boogie_run.specs.BoogiePoints.Actions.{Action, next_part, guarded, checked, plain_conditions, free_conditions, ensured_conditions, chosen_columns, unseen_action, called_action, call_action, call_if_any, head_action, havoc_action, one_of, ways_to, statement_action, block_action, body_action, entry_point, first_point, entry_action, exit_action, start_conditions, start_action, first_assertion, first_place, stage_action, body_or_leave, procedure_action, action_at}
use Rattle.boogie_run.specs.BoogiePoints.Starts.{targets_at}
use Rattle.boogie_run.specs.Steps.{passed_state}
use Rattle.boogie_run.proofs.TypedPoints.{IsKept}
use Rattle.lowered_graph.proofs.LoweredImports.RightPoints.{FirstRight, StageRight, PointRight}
use Rattle.lowered_graph.proofs.LoweredRuns.Taken.{all_at}
use Rattle.modular_cut.specs.Parts.{recalled, recalled_block, own_procedure}
use Rattle.modular_cut.proofs.Called.{named_like, IsCallee, Renumbers, part_program}
use Rattle.modular_cut.proofs.SamePoints.{SameTodos, SamePoint, SamePoints, exits_same, same_at, first_same, settled_same, settled_first, broken_same, ways_same, settled_part, AreAtStart, ways_start}

-- ---- what is shown one after another at a point

abbrev pub claims_of_callee : Option TypedProcedure → List TypedInvariant
claims_of_callee None = []
claims_of_callee (Some q) = plain_conditions q.specs

abbrev pub claims_of_block : List TypedProcedure → TypedBlock → List TypedInvariant
claims_of_block procs (Then (Call at cs f es) b) = claims_of_callee (slice_get procs f)
claims_of_block procs b = []

abbrev pub claims_of_stage : List TypedProcedure → TypedProcedure → Stage → List Todo → List TypedInvariant
claims_of_stage procs q Body (d ∷ ds) = claims_of_block procs d.rest
claims_of_stage procs q Exit ds = ensured_conditions q.specs
claims_of_stage procs q stage ds = []

-- at a call, the requires that it asserts; behind the statements, the ensures
abbrev pub claims : List TypedProcedure → TypedProcedure → Point → List TypedInvariant
claims procs q p = claims_of_stage procs q p.stage p.todo

abbrev pub claim_state_of_block : TypedBlock → State → State
claim_state_of_block (Then (Call at cs f es) b) s = passed_state s es
claim_state_of_block b s = s

abbrev pub claim_state_of_stage : Stage → List Todo → State → State
claim_state_of_stage Body (d ∷ ds) s = claim_state_of_block d.rest s
claim_state_of_stage stage ds s = s

-- the state in which they are read
abbrev pub claim_state : Point → State → State
claim_state p s = claim_state_of_stage p.stage p.todo s

-- On to a point where nothing is shown yet, or to the next part, by a condition of that value: it is the one that is shown here, where there is one.
abbrev pub GoesOn : List TypedProcedure → TypedProcedure → Point → Point → (State → ℤ) → Type 0
GoesOn procs q here next v =
    (next.part ≡ 0) ⊎ ((next ≡ next_part here) × ((i : TypedInvariant) (s : State) → slice_get (claims procs q here) here.part ≡ Some i → value (claim_state here s) i.cond ≡ v s))

-- on to a point where nothing is shown yet, or to the next part where nothing is shown at all
abbrev pub Leaves : List TypedProcedure → TypedProcedure → Point → Point → Type 0
Leaves procs q here next = (next.part ≡ 0) ⊎ ((next ≡ next_part here) × (claims procs q here ≡ []))

-- ---- what is written

abbrev pub WritesWithin : TypedProcedure → Column → Type 0
WritesWithin q (columns.Global m) = is_member m q.modifies ≡ true
WritesWithin q (columns.Old m) = Unit {0}
WritesWithin q (columns.Local m) = Unit {0}

-- of the globals, only those that the procedure modifies
abbrev pub IsWithin : TypedProcedure → List Column → Type 0
IsWithin q cs = AllByRecursion (WritesWithin q) cs

-- ---- actions

-- The point stands at a call of procedure f, of which all requires are shown.
pub record IsAtCall (procs : List TypedProcedure) (q : TypedProcedure) (here : Point) (f : ℕ) (args : List TypedExpression) : Type 0 where
  pub callee : TypedProcedure
  pub is : slice_get procs f ≡ Some callee
  pub claims_are : claims procs q here ≡ plain_conditions callee.specs
  pub state_is : (s : State) → claim_state here s ≡ passed_state s args
  pub done : slice_get (plain_conditions callee.specs) here.part ≡ None
  pub within : IsWithin q (targets_at here.todo)
  pub modified : list_all (λ m. is_member m q.modifies) callee.modifies ≡ true

-- The actions are the same, of procedure q and of its part. Told are the procedures, the procedure, the renumbering, and the point.
pub data SameStep (procs : List TypedProcedure) (q : TypedProcedure) (r : ℕ → ℕ) (here : Point) : Action → Action → Type 0 where
  check : (i j : ℕ) (at : Span) (e : TypedExpression) (p p2 : Point) → SamePoint r p p2 → GoesOn procs q here p (λ s. value s e) → SameStep procs q r here (actions.Check i at e p) (actions.Check j at e p2)
  suppose : (e : TypedExpression) (p p2 : Point) → SamePoint r p p2 → GoesOn procs q here p (λ s. value s e) → SameStep procs q r here (actions.Suppose e p) (actions.Suppose e p2)
  demand : (i j : ℕ) (at : Span) (e : TypedExpression) (args : List TypedExpression) (p p2 : Point) → SamePoint r p p2 → GoesOn procs q here p (λ s. value (passed_state s args) e) →
      SameStep procs q r here (actions.Demand i at e args p) (actions.Demand j at e args p2)
  write : (cs : List Column) (es : List TypedExpression) (p p2 : Point) → SamePoint r p p2 → Leaves procs q here p → IsWithin q cs → SameStep procs q r here (actions.Write cs es p) (actions.Write cs es p2)
  guess : (c : Column) (p p2 : Point) → SamePoint r p p2 → Leaves procs q here p → WritesWithin q c → SameStep procs q r here (actions.Guess c p) (actions.Guess c p2)
  test : (e : TypedExpression) (hit miss hit2 miss2 : Point) → SamePoint r hit hit2 → SamePoint r miss miss2 → hit.part ≡ 0 → miss.part ≡ 0 → SameStep procs q r here (actions.Test e hit miss) (actions.Test e hit2 miss2)
  pick : (ps ps2 : List Point) → SamePoints r ps ps2 → AreAtStart ps → SameStep procs q r here (actions.Pick ps) (actions.Pick ps2)
  jump : (p p2 : Point) → SamePoint r p p2 → p.part ≡ 0 → SameStep procs q r here (actions.Jump p) (actions.Jump p2)
  enter : (f : ℕ) (args : List TypedExpression) (k : IsAtCall procs q here f args) (body : TypedBlock) → k.callee.body ≡ Some body → (o : Option Column) (e : Option TypedInvariant) (targets : List Column) (h nx : Point) →
      SameStep procs q r here (actions.Enter f args) (unseen_action o e (r f) targets args h nx)
  import : (f : ℕ) (args : List TypedExpression) (k : IsAtCall procs q here f args) (o : Option Column) (e : Option TypedInvariant) (targets : List Column) (h nx h2 nx2 : Point) →
      SameStep procs q r here (unseen_action o e f targets args h nx) (unseen_action o e (r f) targets args h2 nx2)
  leave : claims procs q here ≡ ensured_conditions q.specs → ((s : State) → claim_state here s ≡ s) → slice_get (ensured_conditions q.specs) here.part ≡ None → SameStep procs q r here actions.Leave actions.Leave

-- ---- what typing gives

within_of : (q : TypedProcedure) (k : Context) (cs : List Column) → k.modifies ≡ q.modifies → list_all (is_writable k) cs ≡ true → IsWithin q cs
within_of q k [] e h = tt
within_of q k (columns.Global m ∷ cs) e h =
    let both = and_parts (is_writable k (columns.Global m)) (list_all (is_writable k) cs) h in
    let parts = and_parts (meets (λ v. not v.constant) (slice_get k.scope.globals m)) (is_member m k.modifies) both.0 in
    (sym (ap (is_member m) e) ∙ parts.1, within_of q k cs e both.1)
within_of q k (columns.Old m ∷ cs) e h = (tt, within_of q k cs e (and_parts (is_writable k (columns.Old m)) (list_all (is_writable k) cs) h).1)
within_of q k (columns.Local m ∷ cs) e h = (tt, within_of q k cs e (and_parts (is_writable k (columns.Local m)) (list_all (is_writable k) cs) h).1)

-- what a call keeps
record IsTypedCall (procs : List TypedProcedure) (q : TypedProcedure) (cs : List Column) (f : ℕ) : Type 0 where
  callee : TypedProcedure
  is : slice_get procs f ≡ Some callee
  within : IsWithin q cs
  modified : list_all (λ m. is_member m q.modifies) callee.modifies ≡ true

call_typed : (t : TypedProgram) (q : TypedProcedure) (at : Span) (cs : List Column) (f : ℕ) (es : List TypedExpression) (b : TypedBlock) → IsKept t q (Then (Call at cs f es) b) → IsTypedCall t.procs q cs f
call_typed t q at cs f es b h =
    let k : Context = h.context in
    let whole = and_parts (is_statement k (Call at cs f es)) (is_block k b) h.kept in
    let both = and_parts (are_targets k cs) (meets (is_call k cs es) (slice_get k.procs f)) whole.0 in
    let targets = and_parts (list_all (is_writable k) cs) (all_differ same_column cs) both.0 in
    let found : meets (is_call k cs es) (slice_get t.procs f) ≡ true = sym (ap (λ (ps : List TypedProcedure). meets (is_call k cs es) (slice_get ps f)) h.inside.procs) ∙ both.1 in
    by_callee k (slice_get t.procs f) refl h.inside.modifies (within_of q k cs h.inside.modifies targets.0) found
  where
    by_callee : (k : Context) (o : Option TypedProcedure) → slice_get t.procs f ≡ o → k.modifies ≡ q.modifies → IsWithin q cs → meets (is_call k cs es) o ≡ true → IsTypedCall t.procs q cs f
    by_callee k None e m w h = absurd (false≢true h)
    by_callee k (Some p) e m w h =
        let agree = and_parts (arguments_agree k.scope (params_of p) es) (results_agree k.scope (results_of p) cs && list_all (λ x. is_member x k.modifies) p.modifies) h in
        let rest = and_parts (results_agree k.scope (results_of p) cs) (list_all (λ x. is_member x k.modifies) p.modifies) agree.1 in
        record { callee = p; is = e; within = w; modified = sym (ap (λ (ms : List ℕ). list_all (λ x. is_member x ms) p.modifies) m) ∙ rest.1 }

havoc_within : (t : TypedProgram) (q : TypedProcedure) (at : Span) (cs : List Column) (b : TypedBlock) → IsKept t q (Then (Havoc at cs) b) → IsWithin q cs
havoc_within t q at cs b h =
    let k : Context = h.context in
    let whole = and_parts (is_statement k (Havoc at cs)) (is_block k b) h.kept in
    let both = and_parts (not (is_empty cs)) (are_targets k cs) whole.0 in
    within_of q k cs h.inside.modifies (and_parts (list_all (is_writable k) cs) (all_differ same_column cs) both.1).0

assign_within : (t : TypedProgram) (q : TypedProcedure) (at : Span) (cs : List Column) (es : List TypedExpression) (b : TypedBlock) → IsKept t q (Then (Assign at cs es) b) → IsWithin q cs
assign_within t q at cs es b h =
    let k : Context = h.context in
    let whole = and_parts (is_statement k (Assign at cs es)) (is_block k b) h.kept in
    let both = and_parts (not (is_empty cs)) (are_targets k cs && values_agree k.scope cs es) whole.0 in
    let targets = and_parts (are_targets k cs) (values_agree k.scope cs es) both.1 in
    within_of q k cs h.inside.modifies (and_parts (list_all (is_writable k) cs) (all_differ same_column cs) targets.0).0

-- ---- the actions of a body

module _ (t : TypedProgram) (n : ℕ) (q : TypedProcedure) (body : TypedBlock) (parts : List TypedProcedure) (r : ℕ → ℕ) (calls : Renumbers t.procs parts r) where
  checked_same : (here : Point) (free : Bool) (i j : ℕ) (at : Span) (e : TypedExpression) (p p2 : Point) → SamePoint r p p2 → GoesOn t.procs q here p (λ s. value s e) →
      SameStep t.procs q r here (checked free i at e p) (checked free j at e p2)
  checked_same here true i j at e p p2 h g = suppose e p p2 h g
  checked_same here false i j at e p p2 h g = check i j at e p p2 h g

  guarded_same : (here : Point) (g : TypedGuard) (hit miss hit2 miss2 : Point) → SamePoint r hit hit2 → SamePoint r miss miss2 → hit.part ≡ 0 → miss.part ≡ 0 →
      SameStep t.procs q r here (guarded g hit miss) (guarded g hit2 miss2)
  guarded_same here Any hit miss hit2 miss2 h m a b = pick (hit ∷ miss ∷ []) (hit2 ∷ miss2 ∷ []) (h, (m, tt)) (a, (b, tt))
  guarded_same here (Cond e) hit miss hit2 miss2 h m a b = test e hit miss hit2 miss2 h m a b

  one_same : (here : Point) (ps ps2 : List Point) → SamePoints r ps ps2 → AreAtStart ps → SameStep t.procs q r here (one_of ps) (one_of ps2)
  one_same here [] [] h a = jump at_exit at_exit (exits_same r) refl
  one_same here [] (x ∷ xs) h a = absurd h
  one_same here (p ∷ ps) [] h a = absurd h
  one_same here (p ∷ []) (x ∷ []) h a = jump p x h.0 a.0
  one_same here (p ∷ []) (x ∷ y ∷ xs) h a = absurd h.1
  one_same here (p ∷ o ∷ ps) (x ∷ []) h a = absurd h.1
  one_same here (p ∷ o ∷ ps) (x ∷ y ∷ xs) h a = pick (p ∷ o ∷ ps) (x ∷ y ∷ xs) h a

  -- ---- a call, behind its requires or not

  module _ (at : Span) (cs : List Column) (f : ℕ) (es : List TypedExpression) (b : TypedBlock) (l : Bool) (id place id2 place2 : ℕ) (ds es2 : List Todo) (h : SameTodos r ds es2) (k : ℕ) (nx nx2 : Point) where
    abbrev here : Point
    here = record { stage = Body; todo = record { rest = Then (Call at cs f es) b; of_loop = l; id = id; at = place } ∷ ds; part = k }

    abbrev here2 : Point
    here2 = record { stage = Body; todo = record { rest = recalled_block r (Then (Call at cs f es) b); of_loop = l; id = id2; at = place2 } ∷ es2; part = k }

    at_call : (c : IsTypedCall t.procs q cs f) → slice_get (plain_conditions c.callee.specs) k ≡ None → IsAtCall t.procs q here f es
    at_call c d = record { callee = c.callee; is = c.is; claims_are = ap claims_of_callee c.is; state_is = λ s. refl; done = d; within = c.within; modified = c.modified }

    by_body : (c : IsTypedCall t.procs q cs f) (name : List ℕ) (o : Option TypedBlock) → c.callee.body ≡ o → slice_get (plain_conditions c.callee.specs) k ≡ None → (done : ℕ) →
        SameStep t.procs q r here (called_action f c.callee o cs es done here nx) (called_action (r f) (named_like c.callee name) None cs es done here2 nx2)
    by_body c name None e d done =
        import f es (at_call c d) (slice_get (chosen_columns c.callee) done) (slice_get (ensured_conditions c.callee.specs) (done - length (chosen_columns c.callee))) cs here nx here2 nx2
    by_body c name (Some x) e d done =
        enter f es (record { callee = c.callee; is = c.is; claims_are = ap claims_of_callee c.is; state_is = λ s. refl; done = d; within = c.within; modified = c.modified }) x e
        (slice_get (chosen_columns c.callee) done) (slice_get (ensured_conditions c.callee.specs) (done - length (chosen_columns c.callee))) cs here2 nx2

    by_part : (c : IsTypedCall t.procs q cs f) (name : List ℕ) (done : ℕ) (o : Option TypedInvariant) → slice_get (plain_conditions c.callee.specs) k ≡ o →
        SameStep t.procs q r here (call_action o (id + k) f c.callee at cs es done here nx) (call_action o (id2 + k) (r f) (named_like c.callee name) at cs es done here2 nx2)
    by_part c name done (Some i) e =
        demand (id + k) (id2 + k) at i.cond es (next_part here) (next_part here2) (same_at r Body (k + 1) _ _ (first_same r (Then (Call at cs f es) b) l id place id2 place2 ds es2 h))
        (inr (
          refl,
          λ j s found. let one : Some i ≡ Some j = sym e ∙ sym (ap (λ (xs : List TypedInvariant). slice_get xs k) (ap claims_of_callee c.is)) ∙ found in
              let same : j ≡ i = cc in ap (λ (x : TypedInvariant). value (passed_state s es) x.cond) same,
        ))
    by_part c name done None e = by_body c name c.callee.body refl e done

    call_same : IsKept t q (Then (Call at cs f es) b) → SameStep t.procs q r here (call_if_any (slice_get t.procs f) id f at cs es here nx) (call_if_any (slice_get parts (r f)) id2 (r f) at cs es here2 nx2)
    call_same kept =
        let c : IsTypedCall t.procs q cs f = call_typed t q at cs f es b kept in
        let found : IsCallee parts (r f) c.callee = calls f c.callee c.is in
        subst (λ (o : Option TypedProcedure). SameStep t.procs q r here (call_if_any o id f at cs es here nx) (call_if_any (slice_get parts (r f)) id2 (r f) at cs es here2 nx2)) (sym c.is)
        (subst (λ (o : Option TypedProcedure). SameStep t.procs q r here (call_if_any (Some c.callee) id f at cs es here nx) (call_if_any o id2 (r f) at cs es here2 nx2)) (sym found.is)
        (by_part c found.name (k - length (plain_conditions c.callee.specs)) (slice_get (plain_conditions c.callee.specs) k) refl))

  -- ---- the statements

  module _ (l : Bool) (id place id2 place2 : ℕ) (ds es : List Todo) (h : SameTodos r ds es) (k first start first2 start2 : ℕ) where
    abbrev at_block : TypedBlock → Point
    at_block b = record { stage = Body; todo = record { rest = b; of_loop = l; id = id; at = place } ∷ ds; part = k }

    abbrev at_part_block : TypedBlock → Point
    at_part_block b = record { stage = Body; todo = record { rest = recalled_block r b; of_loop = l; id = id2; at = place2 } ∷ es; part = k }

    -- behind the statement
    behind : (s : TypedStatement) (b : TypedBlock) → SamePoint r (settled (past t.procs s b l id place ∷ ds)) (settled (past parts (recalled r s) (recalled_block r b) l id2 place2 ∷ es))
    behind s b = settled_first r b l (id + assertions t.procs s) (place + points t.procs s) (id2 + assertions parts (recalled r s)) (place2 + points parts (recalled r s)) ds es h

    behind_part : (s : TypedStatement) (b : TypedBlock) → (settled (past t.procs s b l id place ∷ ds)).part ≡ 0
    behind_part s b = settled_part (past t.procs s b l id place ∷ ds)

    -- the next part of it
    further : (b : TypedBlock) → SamePoint r (next_part (at_block b)) (next_part (at_part_block b))
    further b = same_at r Body (k + 1) _ _ (first_same r b l id place id2 place2 ds es h)

    havoc_same : (at : Span) (cs : List Column) (b : TypedBlock) (o p : Option Column) → slice_get cs k ≡ o → IsWithin q cs →
        SameStep t.procs q r (at_block (Then (Havoc at cs) b)) (havoc_action o p (at_block (Then (Havoc at cs) b)) (settled (past t.procs (Havoc at cs) b l id place ∷ ds)))
        (havoc_action o p (at_part_block (Then (Havoc at cs) b)) (settled (past parts (Havoc at cs) (recalled_block r b) l id2 place2 ∷ es)))
    havoc_same at cs b None p e w = jump _ _ (behind (Havoc at cs) b) (behind_part (Havoc at cs) b)
    havoc_same at cs b (Some c) None e w = guess c _ _ (behind (Havoc at cs) b) (inl (behind_part (Havoc at cs) b)) (all_at (WritesWithin q) cs k c w e)
    havoc_same at cs b (Some c) (Some d) e w = guess c _ _ (further (Then (Havoc at cs) b)) (inr (refl, refl)) (all_at (WritesWithin q) cs k c w e)

    head_same : (at : Span) (g : TypedGuard) (is : List TypedInvariant) (x b : TypedBlock) (o : Option TypedInvariant) (i j : ℕ) (a a2 : Action) → SameStep t.procs q r (at_block (Then (While at g is x) b)) a a2 →
        SameStep t.procs q r (at_block (Then (While at g is x) b)) (head_action o i (at_block (Then (While at g is x) b)) a) (head_action o j (at_part_block (Then (While at g is x) b)) a2)
    head_same at g is x b None i j a a2 s = s
    head_same at g is x b (Some y) i j a a2 s =
        checked_same (at_block (Then (While at g is x) b)) y.free i j y.span y.cond (next_part (at_block (Then (While at g is x) b))) (next_part (at_part_block (Then (While at g is x) b))) (further (Then (While at g is x) b))
        (inr (refl, λ z s found. absurd (cc)))

    statement_same : (s : TypedStatement) (b : TypedBlock) → IsKept t q (Then s b) →
        SameStep t.procs q r (at_block (Then s b)) (statement_action t.procs body first start s b l id place ds (at_block (Then s b)))
        (statement_action parts (recalled_block r body) first2 start2 (recalled r s) (recalled_block r b) l id2 place2 es (at_part_block (Then s b)))
    statement_same (Assert at e) b kept = check id id2 at e _ _ (behind (Assert at e) b) (inl (behind_part (Assert at e) b))
    statement_same (Assume at e) b kept = suppose e _ _ (behind (Assume at e) b) (inl (behind_part (Assume at e) b))
    statement_same (Havoc at cs) b kept = havoc_same at cs b (slice_get cs k) (slice_get cs (k + 1)) refl (havoc_within t q at cs b kept)
    statement_same (Assign at cs xs) b kept = write cs xs _ _ (behind (Assign at cs xs) b) (inl (behind_part (Assign at cs xs) b)) (assign_within t q at cs xs b kept)
    statement_same (Call at cs f xs) b kept = call_same at cs f xs b l id place id2 place2 ds es h k (settled (past t.procs (Call at cs f xs) b l id place ∷ ds)) (settled (past parts (Call at cs (r f) xs) (recalled_block r b) l id2 place2 ∷ es)) kept
    statement_same (If at g x y) b kept =
        let after : List Todo = past t.procs (If at g x y) b l id place ∷ ds in
        let after2 : List Todo = past parts (recalled r (If at g x y)) (recalled_block r b) l id2 place2 ∷ es in
        let same : SameTodos r after after2 =
        first_same r b l (id + assertions t.procs (If at g x y)) (place + points t.procs (If at g x y)) (id2 + assertions parts (recalled r (If at g x y))) (place2 + points parts (recalled r (If at g x y))) ds es h in
        let d : Todo = record { rest = x; of_loop = false; id = id; at = place + 1 } in
        let e : Todo = record { rest = y; of_loop = false; id = id + block_assertions t.procs x; at = place + 1 + block_points t.procs x } in
        let d2 : Todo = record { rest = recalled_block r x; of_loop = false; id = id2; at = place2 + 1 } in
        let e2 : Todo = record { rest = recalled_block r y; of_loop = false; id = id2 + block_assertions parts (recalled_block r x); at = place2 + 1 + block_points parts (recalled_block r x) } in
        guarded_same (at_block (Then (If at g x y) b)) g (settled (d ∷ after)) (settled (e ∷ after)) (settled (d2 ∷ after2)) (settled (e2 ∷ after2))
        (settled_first r x false id (place + 1) id2 (place2 + 1) after after2 same)
        (settled_first r y false (id + block_assertions t.procs x) (place + 1 + block_points t.procs x) (id2 + block_assertions parts (recalled_block r x)) (place2 + 1 + block_points parts (recalled_block r x)) after after2 same)
        (settled_part (d ∷ after)) (settled_part (e ∷ after))
    statement_same (While at g is x) b kept =
        let loop : TypedStatement = While at g is x in
        let under : List Todo = record { rest = Then loop b; of_loop = l; id = id; at = place } ∷ ds in
        let under2 : List Todo = record { rest = recalled_block r (Then loop b); of_loop = l; id = id2; at = place2 } ∷ es in
        let d : Todo = record { rest = x; of_loop = true; id = id + plain_invariants is; at = place + length is + 1 } in
        let d2 : Todo = record { rest = recalled_block r x; of_loop = true; id = id2 + plain_invariants is; at = place2 + length is + 1 } in
        let miss : Point = settled (past t.procs loop b l id place ∷ ds) in
        let miss2 : Point = settled (past parts (recalled r loop) (recalled_block r b) l id2 place2 ∷ es) in
        head_same at g is x b (slice_get is k) (id + plain_invariants (take k is)) (id2 + plain_invariants (take k is)) (guarded g (settled (d ∷ under)) miss) (guarded g (settled (d2 ∷ under2)) miss2)
        (guarded_same (at_block (Then loop b)) g (settled (d ∷ under)) miss (settled (d2 ∷ under2)) miss2
        (settled_first r x true (id + plain_invariants is) (place + length is + 1) (id2 + plain_invariants is) (place2 + length is + 1) under under2 (first_same r (Then loop b) l id place id2 place2 ds es h))
        (behind loop b) (settled_part (d ∷ under)) (behind_part loop b))
    statement_same (Break at m) b kept =
        let under : List Todo = record { rest = Then (Break at m) b; of_loop = l; id = id; at = place } ∷ ds in
        let under2 : List Todo = record { rest = recalled_block r (Then (Break at m) b); of_loop = l; id = id2; at = place2 } ∷ es in
        let same : SameTodos r (broken t.procs m under) (broken parts m under2) = broken_same r t.procs parts m under under2 (first_same r (Then (Break at m) b) l id place id2 place2 ds es h) in
        jump (settled (broken t.procs m under)) (settled (broken parts m under2)) (settled_same r (broken t.procs m under) (broken parts m under2) same) (settled_part (broken t.procs m under))
    statement_same (Goto at ks) b kept = one_same (at_block (Then (Goto at ks) b)) (ways_to t.procs body first start ks) (ways_to parts (recalled_block r body) first2 start2 ks) (ways_same r t.procs parts body first start first2 start2 ks) (ways_start t.procs body first start ks)
    statement_same (Return at) b kept = jump at_exit at_exit (exits_same r) refl
    statement_same (Label m) b kept = jump _ _ (behind (Label m) b) (behind_part (Label m) b)

    block_same : (b : TypedBlock) → IsKept t q b →
        SameStep t.procs q r (at_block b) (block_action t.procs body first start b l id place ds (at_block b)) (block_action parts (recalled_block r body) first2 start2 (recalled_block r b) l id2 place2 es (at_part_block b))
    block_same Empty kept = jump at_exit at_exit (exits_same r) refl
    block_same (Then s b) kept = statement_same s b kept

  -- ---- stages

  entry_same : (is : List TypedInvariant) (x : TypedBlock) (l : Bool) (id place id2 place2 : ℕ) →
      SamePoint r (entry_point is (record { rest = x; of_loop = l; id = id; at = place })) (entry_point is (record { rest = recalled_block r x; of_loop = l; id = id2; at = place2 }))
  entry_same [] x l id place id2 place2 = settled_first r x l id place id2 place2 [] [] tt
  entry_same (i ∷ is) x l id place id2 place2 = same_at r Entry 0 (record { rest = x; of_loop = l; id = id; at = place } ∷ []) (record { rest = recalled_block r x; of_loop = l; id = id2; at = place2 } ∷ []) (first_same r x l id place id2 place2 [] [] tt)

  entry_part : (is : List TypedInvariant) (d : Todo) → (entry_point is d).part ≡ 0
  entry_part [] d = settled_part (d ∷ [])
  entry_part (i ∷ is) d = refl

  -- the first points of the body and of the part's
  pub first_points_same : SamePoint r (first_point q body (first_assertion t.procs n) (first_place t n)) (first_point (own_procedure r q) (recalled_block r body) (first_assertion parts n) (first_place (part_program t n parts) n))
  first_points_same =
      entry_same (free_conditions q.specs) body false (first_assertion t.procs n) (first_place t n + length (free_conditions q.specs)) (first_assertion parts n)
      (first_place (part_program t n parts) n + length (free_conditions q.specs))

  pub first_point_part : (first_point q body (first_assertion t.procs n) (first_place t n)).part ≡ 0
  first_point_part = entry_part (free_conditions q.specs) (record { rest = body; of_loop = false; id = first_assertion t.procs n; at = first_place t n + length (free_conditions q.specs) })

  start_same : (k : ℕ) (ds es : List Todo) → SameTodos r ds es → (o p : Option TypedExpression) (first first2 : Point) → SamePoint r first first2 → first.part ≡ 0 →
      SameStep t.procs q r (record { stage = Start; todo = ds; part = k }) (start_action o p (record { stage = Start; todo = ds; part = k }) first) (start_action o p (record { stage = Start; todo = es; part = k }) first2)
  start_same k ds es h None p first first2 s z = jump first first2 s z
  start_same k ds es h (Some e) None first first2 s z = suppose e first first2 s (inl z)
  start_same k ds es h (Some e) (Some d) first first2 s z = suppose e _ _ (same_at r Start (k + 1) ds es h) (inr (refl, λ i s found. absurd (cc)))

  entry_action_same : (k : ℕ) (ds es : List Todo) → SameTodos r ds es → (o p : Option TypedInvariant) →
      SameStep t.procs q r (record { stage = Entry; todo = ds; part = k }) (entry_action o p (record { stage = Entry; todo = ds; part = k })) (entry_action o p (record { stage = Entry; todo = es; part = k }))
  entry_action_same k ds es h None p = jump _ _ (settled_same r ds es h) (settled_part ds)
  entry_action_same k ds es h (Some e) None = suppose e.cond _ _ (settled_same r ds es h) (inl (settled_part ds))
  entry_action_same k ds es h (Some e) (Some d) = suppose e.cond _ _ (same_at r Entry (k + 1) ds es h) (inr (refl, λ i s found. absurd (cc)))

  exit_same : (k : ℕ) (ds es : List Todo) → SameTodos r ds es → (o : Option TypedInvariant) (i j : ℕ) → slice_get (ensured_conditions q.specs) k ≡ o →
      SameStep t.procs q r (record { stage = Exit; todo = ds; part = k }) (exit_action o i (record { stage = Exit; todo = ds; part = k })) (exit_action o j (record { stage = Exit; todo = es; part = k }))
  exit_same k ds es h None i j e = leave refl (λ s. refl) e
  exit_same k ds es h (Some x) i j e =
      checked_same (record { stage = Exit; todo = ds; part = k }) x.free i j x.span x.cond _ _ (same_at r Exit (k + 1) ds es h)
      (inr (refl, λ y s found. let one : Some x ≡ Some y = sym e ∙ found in let same : y ≡ x = cc in ap (λ (z : TypedInvariant). value s z.cond) same))

  body_same : (k : ℕ) (ds es : List Todo) → SameTodos r ds es → (first start first2 start2 : ℕ) → FirstRight t q ds k →
      SameStep t.procs q r (record { stage = Body; todo = ds; part = k }) (body_action t.procs body first start ds (record { stage = Body; todo = ds; part = k }))
      (body_action parts (recalled_block r body) first2 start2 es (record { stage = Body; todo = es; part = k }))
  body_same k [] [] h first start first2 start2 right = jump at_exit at_exit (exits_same r) refl
  body_same k [] (e ∷ es) h first start first2 start2 right = absurd h
  body_same k (d ∷ ds) [] h first start first2 start2 right = absurd h
  body_same k (d ∷ ds) (e ∷ es) h first start first2 start2 right =
      subst (λ (x : Todo). SameStep t.procs q r (record { stage = Body; todo = d ∷ ds; part = k }) (body_action t.procs body first start (d ∷ ds) (record { stage = Body; todo = d ∷ ds; part = k }))
      (body_action parts (recalled_block r body) first2 start2 (x ∷ es) (record { stage = Body; todo = x ∷ es; part = k }))) (sym h.0.is)
      (block_same d.of_loop d.id d.at h.0.id h.0.at ds es h.1 k first start first2 start2 d.rest right.0.kept)

  stage_same : (stage : Stage) (k : ℕ) (ds es : List Todo) → SameTodos r ds es → StageRight t q stage ds k →
      SameStep t.procs q r (record { stage = stage; todo = ds; part = k }) (stage_action t n q body stage (record { stage = stage; todo = ds; part = k }))
      (stage_action (part_program t n parts) n (own_procedure r q) (recalled_block r body) stage (record { stage = stage; todo = es; part = k }))
  stage_same Start k ds es h right = start_same k ds es h (slice_get (start_conditions t q) k) (slice_get (start_conditions t q) (k + 1)) _ _ first_points_same first_point_part
  stage_same Entry k ds es h right = entry_action_same k ds es h (slice_get (free_conditions q.specs) k) (slice_get (free_conditions q.specs) (k + 1))
  stage_same Body k ds es h right = body_same k ds es h _ _ _ _ right
  stage_same Exit k ds es h right = exit_same k ds es h (slice_get (ensured_conditions q.specs) k) _ _ refl

  -- ---- the action at a point

  module _ (is : slice_get t.procs n ≡ Some q) (has : q.body ≡ Some body) (own : slice_get parts n ≡ Some (own_procedure r q)) where
    at_stage : (p : Point) → action_at t n p ≡ stage_action t n q body p.stage p
    at_stage p = ap (λ (o : Option TypedProcedure). procedure_action t n o p) is ∙ ap (λ (o : Option TypedBlock). body_or_leave t n q o p) has

    part_at_stage : (p : Point) → action_at (part_program t n parts) n p ≡ stage_action (part_program t n parts) n (own_procedure r q) (recalled_block r body) p.stage p
    part_at_stage p =
        ap (λ (o : Option TypedProcedure). procedure_action (part_program t n parts) n o p) own
        ∙ ap (λ (o : Option TypedBlock). body_or_leave (part_program t n parts) n (own_procedure r q) (option_map (recalled_block r) o) p) has

    pub step_same : (p p2 : Point) → SamePoint r p p2 → PointRight t q p → SameStep t.procs q r p (action_at t n p) (action_at (part_program t n parts) n p2)
    step_same p p2 h right =
        subst (λ (a : Action). SameStep t.procs q r p a (action_at (part_program t n parts) n p2)) (sym (at_stage p))
        (subst (λ (a : Action). SameStep t.procs q r p (stage_action t n q body p.stage p) a) (sym (part_at_stage p2))
        (subst (λ (x : Point). SameStep t.procs q r p (stage_action t n q body p.stage p) (stage_action (part_program t n parts) n (own_procedure r q) (recalled_block r body) x.stage x)) (sym h.is)
        (stage_same p.stage p.part p.todo h.todo h.same right)))

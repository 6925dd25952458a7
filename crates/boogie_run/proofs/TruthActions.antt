-- What an action of a valid program writes to boolean columns are truth values.
use Rattle.std.proofs.Common.{◌≡◌, ◌≤◌, ℕ, zero, suc, ◌+◌, ◌-◌, ℤ, Bool, true, false, ◌&&◌, not, min, List, [], ◌∷◌, ◌++◌, length, length-append, map, drop, refl, ap, sym, ◌∙◌, subst, Option, None, Some, slice_get, arith}
use Rattle.std.specs.List.{AllByRecursion, list_all}
use Rattle.std.proofs.lemmas.Bool.{and_parts}
use Rattle.std.proofs.lemmas.Option.{slice_get_within}
use Rattle.boogie_tree.specs.declared.span.Span.{Span}
use Rattle.boogie_tree.specs.declared.tree.Column.{Column}
use Rattle.boogie_tree.specs.declared.tree.Column.TheVariants as columns
use Rattle.boogie_tree.specs.declared.tree.VarInfo.{VarInfo}
use Rattle.typed_tree.specs.AffineForm.{is_empty}
use Rattle.typed_tree.specs.Scope.{Scope, body_scope}
use Rattle.typed_tree.specs.Values.{State}
use Rattle.typed_tree.specs.Laws.{BooleansHold}
use Rattle.typed_tree.specs.TypedTree.{TypedExpression, TypedGuard, Any, Cond, TypedInvariant, TypedStatement, Assert, Assume, Havoc, Assign, Call, If, While, Break, Goto, Return, Label, TypedBlock, Empty, Then, TypedProcedure, TypedProgram}
use Rattle.typed_tree.specs.TypingRules.Counts.{block_assertions, block_points, plain_invariants}
use Rattle.typed_tree.specs.TypingRules.Rules.{Context, meets, is_member, are_targets, values_agree, arguments_agree, results_agree, params_of, results_of, is_call, is_statement, is_block}
use Rattle.boogie_run.specs.BoogiePoints.Points as points
use Rattle.boogie_run.specs.BoogiePoints.Points.{Todo, Point, at_exit, unless_ended, settled, past, broken, found_block}
use Rattle.boogie_run.specs.BoogiePoints.Actions as actions
use Rattle.boogie_run.specs.BoogiePoints.Actions.{Action, next_part, guarded, checked, plain_conditions, ensured_conditions, results_from, chosen_columns, unseen_action, called_action, call_action, call_if_any, head_action, point_behind, ways_to, one_of, havoc_action, statement_action, block_action, body_action, entry_point, entry_action, exit_action, start_action, stage_action, body_or_leave, procedure_action}
use Rattle.boogie_run.specs.BoogiePoints.Starts.{targets_at}
use Rattle.boogie_run.specs.Needs.{locals_at, locals_if_any}
use Rattle.boogie_run.specs.Steps.{values, modifies_of}
use Rattle.boogie_run.specs.Laws.{TruthsHold}
use Rattle.boogie_run.proofs.TypedPoints.{IsKept, AreKept}
use Rattle.boogie_run.proofs.TruthColumns.{ValuesHold, ColumnHolds, ColumnsHold, append_columns, split_columns, from_results, to_targets, all_assigned, arguments_hold}

-- ---- what is kept at a call without body

-- so many values are kept as columns are chosen, and they are values of these columns
abbrev pub KeptOf : TypedProgram → Option TypedProcedure → ℕ → List ℤ → Type 0
KeptOf t None part zs = Unit {0}
KeptOf t (Some p) part zs =
    (length zs ≡ min (part - length (plain_conditions p.specs)) (length (chosen_columns p))) × ColumnsHold t.globals p.locals zs (chosen_columns p)

abbrev pub KeptAtBlock : TypedProgram → TypedBlock → ℕ → List ℤ → Type 0
KeptAtBlock t Empty part zs = Unit {0}
KeptAtBlock t (Then (Assert at e) b) part zs = Unit {0}
KeptAtBlock t (Then (Assume at e) b) part zs = Unit {0}
KeptAtBlock t (Then (Havoc at cs) b) part zs = Unit {0}
KeptAtBlock t (Then (Assign at cs es) b) part zs = Unit {0}
KeptAtBlock t (Then (Call at cs f es) b) part zs = KeptOf t (slice_get t.procs f) part zs
KeptAtBlock t (Then (If at g x y) b) part zs = Unit {0}
KeptAtBlock t (Then (While at g is x) b) part zs = Unit {0}
KeptAtBlock t (Then (Break at n) b) part zs = Unit {0}
KeptAtBlock t (Then (Goto at ks) b) part zs = Unit {0}
KeptAtBlock t (Then (Return at) b) part zs = Unit {0}
KeptAtBlock t (Then (Label n) b) part zs = Unit {0}

abbrev pub KeptAt : TypedProgram → List Todo → ℕ → List ℤ → Type 0
KeptAt t [] part zs = Unit {0}
KeptAt t (d ∷ ds) part zs = KeptAtBlock t d.rest part zs

abbrev pub KeptIn : TypedProgram → points.Stage → List Todo → ℕ → List ℤ → Type 0
KeptIn t points.Start ts part zs = Unit {0}
KeptIn t points.Entry ts part zs = Unit {0}
KeptIn t points.Body ts part zs = KeptAt t ts part zs
KeptIn t points.Exit ts part zs = Unit {0}

abbrev pub KeptTrue : TypedProgram → Point → List ℤ → Type 0
KeptTrue t p zs = KeptIn t p.stage p.todo p.part zs

abbrev pub FreshAt : TypedProgram → Point → Type 0
FreshAt t p = KeptTrue t p []

fresh_of : (t : TypedProgram) (o : Option TypedProcedure) → KeptOf t o 0 []
fresh_of t None = tt
fresh_of t (Some p) = (omega arith, tt)

unless_fresh : (t : TypedProgram) (b : TypedBlock) (l : Bool) (id at : ℕ) (under : List Todo) (after : Point) → FreshAt t after → FreshAt t (unless_ended b l id at under after)
unless_fresh t Empty l id at under after h = h
unless_fresh t (Then (Label n) b) l id at under after h = unless_fresh t b l id at under after h
unless_fresh t (Then (Assert s e) b) l id at under after h = tt
unless_fresh t (Then (Assume s e) b) l id at under after h = tt
unless_fresh t (Then (Havoc s cs) b) l id at under after h = tt
unless_fresh t (Then (Assign s cs es) b) l id at under after h = tt
unless_fresh t (Then (Call s cs f es) b) l id at under after h = fresh_of t (slice_get t.procs f)
unless_fresh t (Then (If s g x y) b) l id at under after h = tt
unless_fresh t (Then (While s g is x) b) l id at under after h = tt
unless_fresh t (Then (Break s n) b) l id at under after h = tt
unless_fresh t (Then (Goto s ks) b) l id at under after h = tt
unless_fresh t (Then (Return s) b) l id at under after h = tt

pub settled_fresh : (t : TypedProgram) (ts : List Todo) → FreshAt t (settled ts)
settled_fresh t [] = tt
settled_fresh t (d ∷ ts) = unless_fresh t d.rest d.of_loop d.id d.at ts (settled ts) (settled_fresh t ts)

pub entry_point_fresh : (t : TypedProgram) (is : List TypedInvariant) (d : Todo) → FreshAt t (entry_point is d)
entry_point_fresh t [] d = settled_fresh t (d ∷ [])
entry_point_fresh t (i ∷ is) d = tt

-- ---- calls

-- the first statement calls that procedure
abbrev pub CallsBlock : TypedBlock → ℕ → Type 0
CallsBlock Empty f = ⊥
CallsBlock (Then (Assert at e) b) f = ⊥
CallsBlock (Then (Assume at e) b) f = ⊥
CallsBlock (Then (Havoc at cs) b) f = ⊥
CallsBlock (Then (Assign at cs es) b) f = ⊥
CallsBlock (Then (Call at cs g es) b) f = g ≡ f
CallsBlock (Then (If at g x y) b) f = ⊥
CallsBlock (Then (While at g is x) b) f = ⊥
CallsBlock (Then (Break at n) b) f = ⊥
CallsBlock (Then (Goto at ks) b) f = ⊥
CallsBlock (Then (Return at) b) f = ⊥
CallsBlock (Then (Label n) b) f = ⊥

abbrev pub CallsAt : List Todo → ℕ → Type 0
CallsAt [] f = ⊥
CallsAt (d ∷ ds) f = CallsBlock d.rest f

call_agrees : (t : TypedProgram) (q p : TypedProcedure) (at : Span) (cs : List Column) (f : ℕ) (es : List TypedExpression) (b : TypedBlock) →
    IsKept t q (Then (Call at cs f es) b) → slice_get t.procs f ≡ Some p →
    (arguments_agree (body_scope t.globals q.locals) (params_of p) es ≡ true) × (results_agree (body_scope t.globals q.locals) (results_of p) cs ≡ true)
call_agrees t q p at cs f es b h e =
    let k : Context = h.context in
    let whole = (and_parts (is_statement k (Call at cs f es)) (is_block k b) h.kept).0 in
    let there : meets (is_call k cs es) (slice_get k.procs f) ≡ true = (and_parts (are_targets k cs) (meets (is_call k cs es) (slice_get k.procs f)) whole).1 in
    let same : slice_get k.procs f ≡ Some p = ap (λ (ps : List TypedProcedure). slice_get ps f) h.inside.procs ∙ e in
    let agrees : is_call k cs es p ≡ true = subst (λ (o : Option TypedProcedure). meets (is_call k cs es) o ≡ true) same there in
    let parts = and_parts (arguments_agree k.scope (params_of p) es) (results_agree k.scope (results_of p) cs && list_all (λ n. is_member n k.modifies) p.modifies) agrees in
    let last = and_parts (results_agree k.scope (results_of p) cs) (list_all (λ n. is_member n k.modifies) p.modifies) parts.1 in
    (subst (λ (s : Scope). arguments_agree s (params_of p) es ≡ true) h.inside.scope parts.0, subst (λ (s : Scope). results_agree s (results_of p) cs ≡ true) h.inside.scope last.0)

returned_block : (t : TypedProgram) (q p : TypedProcedure) (n : ℕ) (zs : List ℤ) (b : TypedBlock) (ts : List Todo) (l : Bool) (id at : ℕ) →
    IsKept t q b → CallsBlock b n → slice_get t.procs n ≡ Some p → ValuesHold zs (results_of p) →
    ColumnsHold t.globals q.locals zs (targets_at (record { rest = b; of_loop = l; id = id; at = at } ∷ ts))
returned_block t q p n zs Empty ts l id place h c e v = absurd c
returned_block t q p n zs (Then (Assert at x) b) ts l id place h c e v = absurd c
returned_block t q p n zs (Then (Assume at x) b) ts l id place h c e v = absurd c
returned_block t q p n zs (Then (Havoc at cs) b) ts l id place h c e v = absurd c
returned_block t q p n zs (Then (Assign at cs es) b) ts l id place h c e v = absurd c
returned_block t q p n zs (Then (Call at cs f es) b) ts l id place h c e v =
    to_targets t.globals q.locals (results_of p) cs zs (call_agrees t q p at cs f es b h (ap (slice_get t.procs) c ∙ e)).1 v
returned_block t q p n zs (Then (If at g x y) b) ts l id place h c e v = absurd c
returned_block t q p n zs (Then (While at g is x) b) ts l id place h c e v = absurd c
returned_block t q p n zs (Then (Break at m) b) ts l id place h c e v = absurd c
returned_block t q p n zs (Then (Goto at ks) b) ts l id place h c e v = absurd c
returned_block t q p n zs (Then (Return at) b) ts l id place h c e v = absurd c
returned_block t q p n zs (Then (Label m) b) ts l id place h c e v = absurd c

-- results are values of the targets of the call
pub returned_hold : (t : TypedProgram) (q p : TypedProcedure) (n : ℕ) (zs : List ℤ) (ts : List Todo) → AreKept t q ts → CallsAt ts n → slice_get t.procs n ≡ Some p →
    ValuesHold zs (results_of p) → ColumnsHold t.globals q.locals zs (targets_at ts)
returned_hold t q p n zs [] h c e v = absurd c
returned_hold t q p n zs (d ∷ ts) h c e v = returned_block t q p n zs d.rest ts d.of_loop d.id d.at h.0 c e v

none_past : {X : Type 0} (xs : List X) (n : ℕ) → slice_get xs n ≡ None → length xs ≤ n
none_past [] n h = omega arith
none_past (x ∷ xs) zero h = absurd (cc)
none_past (x ∷ xs) (suc n) h = let rest = none_past xs n h in omega arith

-- ---- actions

module _ (t : TypedProgram) (q : TypedProcedure) where
  abbrev ScopeHere : Scope
  ScopeHere = body_scope t.globals q.locals

  abbrev pub ActionTrue : Point → Action → Type 0
  ActionTrue here (actions.Check id at e next) = FreshAt t next
  ActionTrue here (actions.Suppose e next) = FreshAt t next
  ActionTrue here (actions.Demand id at e args next) = FreshAt t next
  ActionTrue here (actions.Write cs es next) = ((s : State) → BooleansHold (body_scope t.globals q.locals) s → ColumnsHold t.globals q.locals (values s es) cs) × FreshAt t next
  ActionTrue here (actions.Guess c next) = FreshAt t next
  ActionTrue here (actions.Test e hit miss) = FreshAt t hit × FreshAt t miss
  ActionTrue here (actions.Pick ways) = AllByRecursion (FreshAt t) ways
  ActionTrue here (actions.Jump next) = FreshAt t next
  ActionTrue here (actions.Enter f args) =
      ((s : State) → BooleansHold (body_scope t.globals q.locals) s → TruthsHold (locals_at t f) (values s args)) × CallsAt here.todo f
  ActionTrue here (actions.Keep f args x next) = (zs : List ℤ) (z : ℤ) → KeptTrue t here zs → ColumnHolds t.globals (locals_at t f) x z → KeptTrue t next (zs ++ z ∷ [])
  ActionTrue here (actions.Grant f args e next) = (zs : List ℤ) → KeptTrue t here zs → KeptTrue t next zs
  ActionTrue here (actions.Finish f args targets next) =
      ((zs : List ℤ) → KeptTrue t here zs →
      ColumnsHold t.globals (locals_at t f) zs (map columns.Global (modifies_of (slice_get t.procs f)))
      × ColumnsHold t.globals q.locals (drop (length (modifies_of (slice_get t.procs f))) zs) targets)
      × FreshAt t next
  ActionTrue here actions.Leave = Unit {0}

  guarded_true : (here : Point) (g : TypedGuard) (hit miss : Point) → FreshAt t hit → FreshAt t miss → ActionTrue here (guarded g hit miss)
  guarded_true here Any hit miss h m = (h, (m, tt))
  guarded_true here (Cond e) hit miss h m = (h, m)

  checked_true : (here : Point) (b : Bool) (id : ℕ) (at : Span) (e : TypedExpression) (next : Point) → FreshAt t next → ActionTrue here (checked b id at e next)
  checked_true here true id at e next h = h
  checked_true here false id at e next h = h

  havoc_true : (c d : Option Column) (here after : Point) → FreshAt t (next_part here) → FreshAt t after → ActionTrue here (havoc_action c d here after)
  havoc_true None d here after n h = h
  havoc_true (Some c) None here after n h = h
  havoc_true (Some c) (Some d) here after n h = n

  -- a call behind its requires
  unseen_true : (x : Option Column) (i : Option TypedInvariant) (f : ℕ) (p : TypedProcedure) (targets : List Column) (args : List TypedExpression) (here after : Point) →
      slice_get (chosen_columns p) (here.part - length (plain_conditions p.specs)) ≡ x → length (plain_conditions p.specs) ≤ here.part →
      slice_get t.procs f ≡ Some p → results_agree ScopeHere (results_of p) targets ≡ true → FreshAt t after →
      ((n : ℕ) (zs : List ℤ) → KeptOf t (Some p) n zs → KeptIn t here.stage here.todo n zs) → ((n : ℕ) (zs : List ℤ) → KeptIn t here.stage here.todo n zs → KeptOf t (Some p) n zs) →
      ActionTrue here (unseen_action x i f targets args here after)
  unseen_true (Some c) i f p targets args here after at past e agrees fresh to from =
      let locals : locals_at t f ≡ p.locals = ap locals_if_any e in
      λ zs z kept holds.
      let before = from here.part zs kept in
      let within = slice_get_within (chosen_columns p) (here.part - length (plain_conditions p.specs)) c at in
      let count : length zs ≡ here.part - length (plain_conditions p.specs) = omega (arith, before.0) in
      to (here.part + 1) (zs ++ z ∷ []) (
        omega (arith, count, length-append zs (z ∷ [])),
        append_columns t.globals p.locals zs (chosen_columns p) z before.1
            (λ (y : Column) (there : slice_get (chosen_columns p) (length zs) ≡ Some y).
            let same : c ≡ y = cc (at, there, ap (slice_get (chosen_columns p)) count) in
            subst (λ (w : Column). ColumnHolds t.globals p.locals w z) same (subst (λ (ls : List VarInfo). ColumnHolds t.globals ls c z) locals holds)),
      )
  unseen_true None (Some i) f p targets args here after at past e agrees fresh to from =
      λ zs kept.
      let before = from here.part zs kept in
      let all = none_past (chosen_columns p) (here.part - length (plain_conditions p.specs)) at in
      to (here.part + 1) zs (omega (arith, before.0), before.1)
  unseen_true None None f p targets args here after at past e agrees fresh to from =
      let locals : locals_at t f ≡ p.locals = ap locals_if_any e in
      let modified : modifies_of (slice_get t.procs f) ≡ p.modifies = ap modifies_of e in (
        λ zs kept.
            let before = from here.part zs kept in
            let parts = split_columns t.globals p.locals p.modifies (results_from p.params p.results) zs before.1 in
            let chosen = to_targets t.globals q.locals (results_of p) targets (drop (length p.modifies) zs) agrees
            (from_results t.globals p.locals p.params p.results (drop (length p.modifies) zs) parts.1) in (
              subst (λ (ls : List VarInfo). ColumnsHold t.globals ls zs (map columns.Global (modifies_of (slice_get t.procs f)))) (sym locals)
                  (subst (λ (ns : List ℕ). ColumnsHold t.globals p.locals zs (map columns.Global ns)) (sym modified) parts.0),
              subst (λ (ns : List ℕ). ColumnsHold t.globals q.locals (drop (length ns) zs) targets) (sym modified) chosen,
            ),
        fresh,
      )

  called_true : (body : Option TypedBlock) (f : ℕ) (p : TypedProcedure) (targets : List Column) (args : List TypedExpression) (here after : Point) →
      length (plain_conditions p.specs) ≤ here.part → slice_get t.procs f ≡ Some p → arguments_agree ScopeHere (params_of p) args ≡ true →
      results_agree ScopeHere (results_of p) targets ≡ true → FreshAt t after → CallsAt here.todo f →
      ((n : ℕ) (zs : List ℤ) → KeptOf t (Some p) n zs → KeptIn t here.stage here.todo n zs) → ((n : ℕ) (zs : List ℤ) → KeptIn t here.stage here.todo n zs → KeptOf t (Some p) n zs) →
      ActionTrue here (called_action f p body targets args (here.part - length (plain_conditions p.specs)) here after)
  called_true None f p targets args here after past e agree agrees fresh calls to from =
      unseen_true (slice_get (chosen_columns p) (here.part - length (plain_conditions p.specs))) _ f p targets args here after refl past e agrees fresh to from
  called_true (Some b) f p targets args here after past e agree agrees fresh calls to from =
      (λ s w. subst (λ (ls : List VarInfo). TruthsHold ls (values s args)) (sym (ap locals_if_any e)) (arguments_hold ScopeHere s p.params p.locals args agree w), calls)

  call_true : (i : Option TypedInvariant) (id f : ℕ) (p : TypedProcedure) (at : Span) (targets : List Column) (args : List TypedExpression) (here after : Point) →
      slice_get (plain_conditions p.specs) here.part ≡ i → slice_get t.procs f ≡ Some p → arguments_agree ScopeHere (params_of p) args ≡ true →
      results_agree ScopeHere (results_of p) targets ≡ true → FreshAt t after → CallsAt here.todo f →
      ((n : ℕ) (zs : List ℤ) → KeptOf t (Some p) n zs → KeptIn t here.stage here.todo n zs) → ((n : ℕ) (zs : List ℤ) → KeptIn t here.stage here.todo n zs → KeptOf t (Some p) n zs) →
      ActionTrue here (call_action i id f p at targets args (here.part - length (plain_conditions p.specs)) here after)
  call_true (Some i) id f p at targets args here after at_i e agree agrees fresh calls to from =
      let within = slice_get_within (plain_conditions p.specs) here.part i at_i in
      to (here.part + 1) [] (omega arith, tt)
  call_true None id f p at targets args here after at_i e agree agrees fresh calls to from =
      called_true p.body f p targets args here after (none_past (plain_conditions p.specs) here.part at_i) e agree agrees fresh calls to from

  any_call_true : (o : Option TypedProcedure) (id f : ℕ) (at : Span) (targets : List Column) (args : List TypedExpression) (b : TypedBlock) (here after : Point) →
      slice_get t.procs f ≡ o → IsKept t q (Then (Call at targets f args) b) → FreshAt t after → CallsAt here.todo f →
      ((n : ℕ) (zs : List ℤ) → KeptOf t o n zs → KeptIn t here.stage here.todo n zs) → ((n : ℕ) (zs : List ℤ) → KeptIn t here.stage here.todo n zs → KeptOf t o n zs) →
      ActionTrue here (call_if_any o id f at targets args here after)
  any_call_true None id f at targets args b here after e h fresh calls to from = fresh
  any_call_true (Some p) id f at targets args b here after e h fresh calls to from =
      let agree = call_agrees t q p at targets f args b h e in
      call_true (slice_get (plain_conditions p.specs) here.part) _ f p at targets args here after refl e agree.0 agree.1 fresh calls to from

  head_true : (i : Option TypedInvariant) (id : ℕ) (here : Point) (guard : Action) → FreshAt t (next_part here) → ActionTrue here guard → ActionTrue here (head_action i id here guard)
  head_true (Some i) id here guard n h = checked_true here i.free id i.span i.cond (next_part here) n
  head_true None id here guard n h = h

  way_fresh : (o : Option (List Todo)) → FreshAt t (point_behind o)
  way_fresh None = tt
  way_fresh (Some ts) = settled_fresh t ts

  ways_fresh : (body : TypedBlock) (id at : ℕ) (ks : List ℕ) → AllByRecursion (FreshAt t) (ways_to t.procs body id at ks)
  ways_fresh body id at [] = tt
  ways_fresh body id at (k ∷ ks) = (way_fresh (found_block t.procs k body false id at []), ways_fresh body id at ks)

  one_true : (here : Point) (ps : List Point) → AllByRecursion (FreshAt t) ps → ActionTrue here (one_of ps)
  one_true here [] h = tt
  one_true here (p ∷ []) h = h.0
  one_true here (p ∷ r ∷ ps) h = h

  assign_true : (at : Span) (cs : List Column) (es : List TypedExpression) (b : TypedBlock) → IsKept t q (Then (Assign at cs es) b) →
      (s : State) → BooleansHold (body_scope t.globals q.locals) s → ColumnsHold t.globals q.locals (values s es) cs
  assign_true at cs es b h s w =
      let k : Context = h.context in
      let whole = (and_parts (is_statement k (Assign at cs es)) (is_block k b) h.kept).0 in
      let both = (and_parts (not (is_empty cs)) (are_targets k cs && values_agree k.scope cs es) whole).1 in
      let agree = (and_parts (are_targets k cs) (values_agree k.scope cs es) both).1 in
      all_assigned t.globals q.locals s cs es (subst (λ (c : Scope). values_agree c cs es ≡ true) h.inside.scope agree) w

  statement_true : (body : TypedBlock) (first start : ℕ) (s : TypedStatement) (b : TypedBlock) (l : Bool) (id place : ℕ) (under : List Todo) (here : Point) →
      IsKept t q (Then s b) → ((f : ℕ) → CallsBlock (Then s b) f → CallsAt here.todo f) →
      ((n : ℕ) (zs : List ℤ) → KeptAtBlock t (Then s b) n zs → KeptIn t here.stage here.todo n zs) →
      ((n : ℕ) (zs : List ℤ) → KeptIn t here.stage here.todo n zs → KeptAtBlock t (Then s b) n zs) →
      ActionTrue here (statement_action t.procs body first start s b l id place under here)
  statement_true body first start (Assert at e) b l id place under here h calls to from =
      settled_fresh t (past t.procs (Assert at e) b l id place ∷ under)
  statement_true body first start (Assume at e) b l id place under here h calls to from =
      settled_fresh t (past t.procs (Assume at e) b l id place ∷ under)
  statement_true body first start (Havoc at cs) b l id place under here h calls to from =
      havoc_true (slice_get cs here.part) (slice_get cs (here.part + 1)) here _ (to (here.part + 1) [] tt) (settled_fresh t (past t.procs (Havoc at cs) b l id place ∷ under))
  statement_true body first start (Assign at cs es) b l id place under here h calls to from =
      (assign_true at cs es b h, settled_fresh t (past t.procs (Assign at cs es) b l id place ∷ under))
  statement_true body first start (Call at cs f es) b l id place under here h calls to from =
      any_call_true (slice_get t.procs f) id f at cs es b here _ refl h (settled_fresh t (past t.procs (Call at cs f es) b l id place ∷ under)) (calls f refl) to from
  statement_true body first start (If at g x y) b l id place under here h calls to from =
      guarded_true here g _ _
      (settled_fresh t (record { rest = x; of_loop = false; id = id; at = place + 1 } ∷ past t.procs (If at g x y) b l id place ∷ under))
      (settled_fresh t
      (record { rest = y; of_loop = false; id = id + block_assertions t.procs x; at = place + 1 + block_points t.procs x } ∷ past t.procs (If at g x y) b l id place ∷ under))
  statement_true body first start (While at g is x) b l id place under here h calls to from =
      head_true (slice_get is here.part) _ here _ (to (here.part + 1) [] tt)
      (guarded_true here g _ _
      (settled_fresh t (record { rest = x; of_loop = true; id = id + plain_invariants is; at = place + length is + 1 } ∷ here.todo))
      (settled_fresh t (past t.procs (While at g is x) b l id place ∷ under)))
  statement_true body first start (Break at n) b l id place under here h calls to from = settled_fresh t (broken t.procs n here.todo)
  statement_true body first start (Goto at ks) b l id place under here h calls to from = one_true here (ways_to t.procs body first start ks) (ways_fresh body first start ks)
  statement_true body first start (Return at) b l id place under here h calls to from = tt
  statement_true body first start (Label n) b l id place under here h calls to from =
      settled_fresh t (past t.procs (Label n) b l id place ∷ under)

  block_true : (body : TypedBlock) (first start : ℕ) (r : TypedBlock) (l : Bool) (id place : ℕ) (under : List Todo) (here : Point) →
      IsKept t q r → ((f : ℕ) → CallsBlock r f → CallsAt here.todo f) → ((n : ℕ) (zs : List ℤ) → KeptAtBlock t r n zs → KeptIn t here.stage here.todo n zs) →
      ((n : ℕ) (zs : List ℤ) → KeptIn t here.stage here.todo n zs → KeptAtBlock t r n zs) →
      ActionTrue here (block_action t.procs body first start r l id place under here)
  block_true body first start Empty l id place under here h calls to from = tt
  block_true body first start (Then s b) l id place under here h calls to from = statement_true body first start s b l id place under here h calls to from

  body_true : (body : TypedBlock) (first start : ℕ) (ts : List Todo) (here : Point) → AreKept t q ts → here.todo ≡ ts → here.stage ≡ points.Body →
      ActionTrue here (body_action t.procs body first start ts here)
  body_true body first start [] here h e st = tt
  body_true body first start (d ∷ ts) here h e st =
      block_true body first start d.rest d.of_loop d.id d.at ts here h.0
      (λ f c. subst (λ (ds : List Todo). CallsAt ds f) (sym e) c)
      (λ n zs k. subst (λ (s : points.Stage). KeptIn t s here.todo n zs) (sym st) (subst (λ (ds : List Todo). KeptAt t ds n zs) (sym e) k))
      (λ n zs k. subst (λ (ds : List Todo). KeptAt t ds n zs) e (subst (λ (s : points.Stage). KeptIn t s here.todo n zs) st k))

  entry_true : (i j : Option TypedInvariant) (here : Point) → FreshAt t (next_part here) → ActionTrue here (entry_action i j here)
  entry_true None j here n = settled_fresh t here.todo
  entry_true (Some i) None here n = settled_fresh t here.todo
  entry_true (Some i) (Some j) here n = n

  exit_true : (i : Option TypedInvariant) (id : ℕ) (here : Point) → FreshAt t (next_part here) → ActionTrue here (exit_action i id here)
  exit_true None id here n = tt
  exit_true (Some i) id here n = checked_true here i.free id i.span i.cond (next_part here) n

  start_true : (e d : Option TypedExpression) (here first : Point) → FreshAt t (next_part here) → FreshAt t first → ActionTrue here (start_action e d here first)
  start_true None d here first n h = h
  start_true (Some e) None here first n h = h
  start_true (Some e) (Some d) here first n h = n

  stage_true : (n : ℕ) (b : TypedBlock) (s : points.Stage) (here : Point) → AreKept t q here.todo → here.stage ≡ s → ActionTrue here (stage_action t n q b s here)
  stage_true n b points.Start here h e =
      start_true _ _ here _ (subst (λ (s : points.Stage). KeptIn t s here.todo (here.part + 1) []) (sym e) tt) (entry_point_fresh t (actions.free_conditions q.specs) _)
  stage_true n b points.Entry here h e = entry_true _ _ here (subst (λ (s : points.Stage). KeptIn t s here.todo (here.part + 1) []) (sym e) tt)
  stage_true n b points.Body here h e = body_true b _ _ here.todo here h refl e
  stage_true n b points.Exit here h e = exit_true _ _ here (subst (λ (s : points.Stage). KeptIn t s here.todo (here.part + 1) []) (sym e) tt)

  any_body_true : (n : ℕ) (o : Option TypedBlock) (here : Point) → AreKept t q here.todo → ActionTrue here (body_or_leave t n q o here)
  any_body_true n None here h = tt
  any_body_true n (Some b) here h = stage_true n b here.stage here h refl

  -- the action at a point of the procedure
  pub action_true : (n : ℕ) (here : Point) → slice_get t.procs n ≡ Some q → AreKept t q here.todo → ActionTrue here (actions.action_at t n here)
  action_true n here e h = subst (λ (o : Option TypedProcedure). ActionTrue here (procedure_action t n o here)) (sym e) (any_body_true n q.body here h)

-- What an action of a valid program reads and writes, by the numbers of globals and locals, and that where it leads something is to be done.
use Rattle.std.proofs.Common.{◌≡◌, ℕ, ◌+◌, ◌-◌, ◌<◌, ◌≤◌, min, Bool, true, false, ◌&&◌, not, IsTrue, List, [], ◌∷◌, length, take, refl, ap, sym, ◌∙◌, subst, Option, None, Some, slice_get, arith}
use Rattle.std.specs.List.{AllByRecursion, list_all}
use Rattle.std.proofs.lemmas.Bool.{and_parts}
use Rattle.std.proofs.lemmas.Option.{same_Some, slice_get_within}
use Rattle.boogie_tree.specs.declared.span.Span.{Span}
use Rattle.boogie_tree.specs.declared.tree.Ty.{Ty}
use Rattle.boogie_tree.specs.declared.tree.Ty.TheVariants as types
use Rattle.boogie_tree.specs.declared.tree.Column.{Column}
use Rattle.typed_tree.specs.AffineForm.{is_empty}
use Rattle.typed_tree.specs.KeptRules.{is_right}
use Rattle.typed_tree.specs.Scope.{Scope, body_scope}
use Rattle.typed_tree.specs.TypedTree.{TypedExpression, TypedGuard, Any, Cond, TypedInvariant, TypedStatement, Assert, Assume, Havoc, Assign, Call, If, While, Break, Goto, Return, Label, TypedBlock, Empty, Then, TypedProcedure, TypedProgram}
use Rattle.typed_tree.specs.TypingRules.Counts.{block_assertions, block_points, plain_invariants}
use Rattle.typed_tree.specs.TypingRules.Rules.{Context, all_differ, same_column, meets, is_member, is_guard, is_invariant, is_writable, are_targets, values_agree, arguments_agree, results_agree, params_of, results_of, is_call, is_statement, is_block, within, looped}
use Rattle.typed_tree.specs.TypingRules.ValidProgram.{is_valid}
use Rattle.boogie_run.specs.BoogiePoints.Points as points
use Rattle.boogie_run.specs.BoogiePoints.Points.{Todo, Stage, Point, settled, past, broken}
use Rattle.boogie_run.specs.BoogiePoints.Actions as actions
use Rattle.boogie_run.specs.BoogiePoints.Actions.{Action, next_part, guarded, checked, plain_conditions, free_conditions, ensured_conditions, chosen_columns, unseen_action, called_action, call_action, call_if_any, head_action, ways_to, one_of, havoc_action, statement_action, block_action, body_action, first_point, first_assertion, first_place, entry_action, exit_action, start_conditions, start_action, stage_action, body_or_leave, procedure_action, action_at}
use Rattle.boogie_run.specs.BoogiePoints.Starts.{point_of_procedure, point_of_call, targets_at}
use Rattle.boogie_run.specs.RunDefaults.Standing.{AtCall, call_parts, StatementStands, BlockStands, TodoStands, StageStands}
use Rattle.boogie_run.specs.RunDefaults.Acting.{IsVariable}
use Rattle.boogie_run.proofs.RunDefaults.Parts.{all_get, some_and, past_end}
use Rattle.boogie_run.proofs.RunDefaults.Columns.{ColumnIn, ReadsIn, widened, right_reads, all_writable, values_read, arguments_read, results_count}
use Rattle.boogie_run.proofs.RunDefaults.Nesting.{IsNested, AreNested, rest_nested, branches_nested, loop_nested, broken_nested}
use Rattle.boogie_run.proofs.RunDefaults.Valid.{ConditionIn, enough, params_length, results_length, chosen_length, chosen_are_variables, plain_read, free_read, ensured_read, start_read, body_nested}
use Rattle.boogie_run.proofs.RunDefaults.Points.{KeptOf, KeptIn, Keeps, callee_found, settled_keeps, exit_keeps, ways_keep, entry_keeps}

-- a call of a procedure that there is, with an argument for each parameter, where the caller has so many locals
pub record CallKnown (t : TypedProgram) (l f : ℕ) (args : List TypedExpression) : Type 0 where
  pub procedure : TypedProcedure
  pub found : slice_get t.procs f ≡ Some procedure
  pub count : length args ≡ procedure.params
  pub reads : AllByRecursion (ReadsIn (length t.globals) l) args

-- a value was chosen for each modified global and each result
abbrev pub IsDone : TypedProcedure → ℕ → Type 0
IsDone p k = k ≡ length p.modifies + p.results

module _ (t : TypedProgram) (n : ℕ) (q : TypedProcedure) (body : TypedBlock) where
  abbrev pub ReadsHere : TypedExpression → Type 0
  ReadsHere e = ReadsIn (length t.globals) (length q.locals) e

  abbrev pub WritesHere : Column → Type 0
  WritesHere c = ColumnIn (length t.globals) (length q.locals) c

  -- so many values are kept at the point
  abbrev pub KeptHere : Point → ℕ → Type 0
  KeptHere p k = KeptIn t p.stage p.todo p.part k

  abbrev pub ActionKnown : Point → Action → Type 0
  ActionKnown here (actions.Check id at e next) = ReadsHere e × Keeps t n q body next 0
  ActionKnown here (actions.Suppose e next) = ReadsHere e × Keeps t n q body next 0
  ActionKnown here (actions.Demand id at e args next) =
      AllByRecursion (ReadsIn (length t.globals) (length q.locals)) args × ReadsIn (length t.globals) (length args) e × Keeps t n q body next 0
  ActionKnown here (actions.Write cs es next) =
      (length cs ≡ length es) × AllByRecursion (ColumnIn (length t.globals) (length q.locals)) cs
      × AllByRecursion (ReadsIn (length t.globals) (length q.locals)) es × Keeps t n q body next 0
  ActionKnown here (actions.Guess x next) = WritesHere x × Keeps t n q body next 0
  ActionKnown here (actions.Test e hit miss) = ReadsHere e × Keeps t n q body hit 0 × Keeps t n q body miss 0
  ActionKnown here (actions.Pick ways) = (0 < length ways) × AllByRecursion (λ (p : Point). Keeps t n q body p 0) ways
  ActionKnown here (actions.Jump next) = Keeps t n q body next 0
  ActionKnown here (actions.Enter f args) =
      (k : CallKnown t (length q.locals) f args) × (b : TypedBlock) × (k.procedure.body ≡ Some b) × AtCall f here.todo
  ActionKnown here (actions.Keep f args x next) =
      (k : CallKnown t (length q.locals) f args) × IsVariable t.globals k.procedure.locals x
      × ((j : ℕ) → KeptIn t here.stage here.todo here.part j → Keeps t n q body next (j + 1))
  ActionKnown here (actions.Grant f args e next) =
      (k : CallKnown t (length q.locals) f args) × ReadsIn (length t.globals) (k.procedure.params + k.procedure.results) e
      × ((j : ℕ) → KeptIn t here.stage here.todo here.part j → IsDone k.procedure j × Keeps t n q body next j)
  ActionKnown here (actions.Finish f args targets next) =
      (k : CallKnown t (length q.locals) f args) × ((j : ℕ) → KeptIn t here.stage here.todo here.part j → IsDone k.procedure j)
      × (length targets ≡ k.procedure.results) × AllByRecursion (ColumnIn (length t.globals) (length q.locals)) targets × Keeps t n q body next 0
  ActionKnown here actions.Leave = Unit {0}

-- the point at a statement with so many parts done
abbrev Here : TypedStatement → TypedBlock → Bool → ℕ → ℕ → List Todo → ℕ → Point
Here s b l id place under m = record { stage = points.Body; todo = record { rest = Then s b; of_loop = l; id = id; at = place } ∷ under; part = m }

module _ (t : TypedProgram) (valid : IsTrue (is_valid t)) (n : ℕ) (q : TypedProcedure) (body : TypedBlock) (found : slice_get t.procs n ≡ Some q) (has : q.body ≡ Some body) where
  abbrev FirstId : ℕ
  FirstId = first_assertion t.procs n

  abbrev FirstPlace : ℕ
  FirstPlace = first_place t n + length (free_conditions q.specs)

  -- ---- expressions and columns of the body

  own_reads : (s : Scope) (ty : Ty) (e : TypedExpression) → s ≡ body_scope t.globals q.locals → is_right s ty e ≡ true → ReadsIn (length t.globals) (length q.locals) e
  own_reads s ty e same h = subst (λ (r : Scope). ReadsIn (length r.globals) (length r.locals) e) same (right_reads s ty e h)

  own_targets : (k : Context) (cs : List Column) → k.scope ≡ body_scope t.globals q.locals → are_targets k cs ≡ true →
      AllByRecursion (ColumnIn (length t.globals) (length q.locals)) cs
  own_targets k cs same h =
      subst (λ (r : Scope). AllByRecursion (ColumnIn (length r.globals) (length r.locals)) cs) same
      (all_writable k cs (and_parts (list_all (is_writable k) cs) (all_differ same_column cs) h).0)

  conditions_read : (s : Scope) (is : List TypedInvariant) → s ≡ body_scope t.globals q.locals → list_all (is_invariant s) is ≡ true →
      AllByRecursion (ConditionIn t (length q.locals)) is
  conditions_read s [] same h = tt
  conditions_read s (i ∷ is) same h =
      let parts = and_parts (is_invariant s i) (list_all (is_invariant s) is) h in
      (own_reads s types.Bool i.cond same parts.0, conditions_read s is same parts.1)

  -- of a call: its arguments, and how many targets it has
  call_known : (k : Context) (cs : List Column) (f : ℕ) (es : List TypedExpression) (p : TypedProcedure) → k.scope ≡ body_scope t.globals q.locals →
      (there : slice_get t.procs f ≡ Some p) → is_call k cs es p ≡ true →
      (length es ≡ p.params) × AllByRecursion (ReadsIn (length t.globals) (length q.locals)) es × (length cs ≡ p.results)
  call_known k cs f es p same there h =
      let parts = and_parts (arguments_agree k.scope (params_of p) es) (results_agree k.scope (results_of p) cs && list_all (λ m. is_member m k.modifies) p.modifies) h in
      let agrees = (and_parts (results_agree k.scope (results_of p) cs) (list_all (λ m. is_member m k.modifies) p.modifies) parts.1).0 in
      let args = arguments_read k.scope (params_of p) es parts.0 in (
        args.0 ∙ params_length t valid f p there,
        subst (λ (r : Scope). AllByRecursion (ReadsIn (length r.globals) (length r.locals)) es) same args.1,
        results_count k.scope (results_of p) cs agrees ∙ results_length t valid f p there p.locals refl,
      )

  -- ---- parts of actions

  checked_known : (here : Point) (b : Bool) (id : ℕ) (at : Span) (e : TypedExpression) (next : Point) → ReadsIn (length t.globals) (length q.locals) e → Keeps t n q body next 0 →
      ActionKnown t n q body here (checked b id at e next)
  checked_known here true id at e next h k = (h, k)
  checked_known here false id at e next h k = (h, k)

  guarded_known : (here : Point) (s : Scope) (g : TypedGuard) (hit miss : Point) → s ≡ body_scope t.globals q.locals → is_guard s g ≡ true → Keeps t n q body hit 0 →
      Keeps t n q body miss 0 → ActionKnown t n q body here (guarded g hit miss)
  guarded_known here s Any hit miss same h k m = (omega arith, (k, (m, tt)))
  guarded_known here s (Cond e) hit miss same h k m = (own_reads s types.Bool e same h, k, m)

  havoc_known : (here after : Point) (cs : List Column) (m : ℕ) (c d : Option Column) → slice_get cs m ≡ c → slice_get cs (m + 1) ≡ d →
      AllByRecursion (ColumnIn (length t.globals) (length q.locals)) cs → (m + 1 < length cs → Keeps t n q body (next_part here) 0) → Keeps t n q body after 0 →
      ActionKnown t n q body here (havoc_action c d here after)
  havoc_known here after cs m None d e f w next h = h
  havoc_known here after cs m (Some c) None e f w next h = (all_get (ColumnIn (length t.globals) (length q.locals)) cs m c w e, h)
  havoc_known here after cs m (Some c) (Some d) e f w next h =
      (all_get (ColumnIn (length t.globals) (length q.locals)) cs m c w e, next (slice_get_within cs (m + 1) d f))

  head_known : (here : Point) (is : List TypedInvariant) (m : ℕ) (i : Option TypedInvariant) (id : ℕ) (guard : Action) → slice_get is m ≡ i →
      AllByRecursion (ConditionIn t (length q.locals)) is → (m < length is → Keeps t n q body (next_part here) 0) → ActionKnown t n q body here guard →
      ActionKnown t n q body here (head_action i id here guard)
  head_known here is m None id guard e r next h = h
  head_known here is m (Some i) id guard e r next h =
      checked_known here i.free id i.span i.cond (next_part here) (all_get (ConditionIn t (length q.locals)) is m i r e) (next (slice_get_within is m i e))

  one_known : (here : Point) (ps : List Point) → AllByRecursion (λ (p : Point). Keeps t n q body p 0) ps → ActionKnown t n q body here (one_of ps)
  one_known here [] h = exit_keeps t n q body
  one_known here (p ∷ []) h = h.0
  one_known here (p ∷ r ∷ ps) h = (omega arith, h)

  -- behind the first statement of a block
  after_keeps : (s : TypedStatement) (b : TypedBlock) (l : Bool) (id place : ℕ) (under : List Todo) → IsNested t q body (Then s b) l under → AreNested t q body under →
      Keeps t n q body (settled (past t.procs s b l id place ∷ under)) 0
  after_keeps s b l id place under h u = settled_keeps t n q body (past t.procs s b l id place ∷ under) (rest_nested t q body s b l under h, u)

  -- ---- calls

  module _ (at : Span) (cs : List Column) (f : ℕ) (es : List TypedExpression) (b : TypedBlock) (l : Bool) (id place : ℕ) (under : List Todo) (m : ℕ)
      (h : IsNested t q body (Then (Call at cs f es) b) l under) (u : AreNested t q body under) (p : TypedProcedure) (there : slice_get t.procs f ≡ Some p) (agrees : is_call h.context cs es p ≡ true) where
    abbrev AtThis : Point
    AtThis = Here (Call at cs f es) b l id place under m

    known : (length es ≡ p.params) × AllByRecursion (ReadsIn (length t.globals) (length q.locals)) es × (length cs ≡ p.results)
    known = call_known h.context cs f es p h.inside.scope there agrees

    targets : AllByRecursion (ColumnIn (length t.globals) (length q.locals)) cs
    targets =
        own_targets h.context cs h.inside.scope
        (and_parts (are_targets h.context cs) (meets (is_call h.context cs es) (slice_get h.context.procs f))
        (and_parts (is_statement h.context (Call at cs f es)) (is_block h.context b) h.kept).0).0

    part_keeps : (j : ℕ) → m + 1 ≤ call_parts p → j ≡ min ((m + 1) - length (plain_conditions p.specs)) (length (chosen_columns p)) →
        Keeps t n q body (next_part AtThis) j
    part_keeps j less kept =
        record {
          nested = (h, u);
          stands = some_and (λ (r : TypedProcedure). m + 1 ≤ call_parts r) (slice_get t.procs f) p there less;
          kept = subst (λ (o : Option TypedProcedure). KeptOf o (m + 1) j) (sym there) kept;
        }

    kept_before : (j : ℕ) → KeptOf (slice_get t.procs f) m j → j ≡ min (m - length (plain_conditions p.specs)) (length (chosen_columns p))
    kept_before j k = subst (λ (o : Option TypedProcedure). KeptOf o m j) there k

    unseen_known : (x : Option Column) (i : Option TypedInvariant) (after : Point) → length (plain_conditions p.specs) ≤ m →
        slice_get (chosen_columns p) (m - length (plain_conditions p.specs)) ≡ x →
        slice_get (ensured_conditions p.specs) ((m - length (plain_conditions p.specs)) - length (chosen_columns p)) ≡ i → Keeps t n q body after 0 →
        ActionKnown t n q body AtThis (unseen_action x i f cs es AtThis after)
    unseen_known (Some c) i after past e g k =
        let within = slice_get_within (chosen_columns p) (m - length (plain_conditions p.specs)) c e in (
          record { procedure = p; found = there; count = known.0; reads = known.1 },
          all_get (IsVariable t.globals p.locals) (chosen_columns p) (m - length (plain_conditions p.specs)) c (chosen_are_variables t valid f p there) e,
          λ j kept. part_keeps (j + 1) (omega (arith, within, past)) (omega (arith, within, past, kept_before j kept)),
        )
    unseen_known None (Some i) after past e g k =
        let all = past_end (chosen_columns p) (m - length (plain_conditions p.specs)) e in
        let within = slice_get_within (ensured_conditions p.specs) ((m - length (plain_conditions p.specs)) - length (chosen_columns p)) i g in (
          record { procedure = p; found = there; count = known.0; reads = known.1 },
          all_get (ConditionIn t (p.params + p.results)) (ensured_conditions p.specs) ((m - length (plain_conditions p.specs)) - length (chosen_columns p)) i (ensured_read t valid f p there) g,
          λ j kept. (
            omega (arith, all, kept_before j kept, chosen_length p),
            part_keeps j (omega (arith, all, within, past)) (omega (arith, all, past, kept_before j kept)),
          ),
        )
    unseen_known None None after past e g k =
        let all = past_end (chosen_columns p) (m - length (plain_conditions p.specs)) e in (
          record { procedure = p; found = there; count = known.0; reads = known.1 },
          λ j kept. omega (arith, all, kept_before j kept, chosen_length p),
          known.2,
          targets,
          k,
        )

    called_known : (o : Option TypedBlock) (after : Point) → p.body ≡ o → length (plain_conditions p.specs) ≤ m → Keeps t n q body after 0 →
        ActionKnown t n q body AtThis (called_action f p o cs es (m - length (plain_conditions p.specs)) AtThis after)
    called_known None after e past k = unseen_known (slice_get (chosen_columns p) (m - length (plain_conditions p.specs)))
        (slice_get (ensured_conditions p.specs) ((m - length (plain_conditions p.specs)) - length (chosen_columns p))) after past refl refl k
    called_known (Some c) after e past k = (record { procedure = p; found = there; count = known.0; reads = known.1 }, c, e, refl)

    asserted_known : (i : Option TypedInvariant) (number : ℕ) (after : Point) → slice_get (plain_conditions p.specs) m ≡ i → Keeps t n q body after 0 →
        ActionKnown t n q body AtThis (call_action i number f p at cs es (m - length (plain_conditions p.specs)) AtThis after)
    asserted_known None number after e k = called_known p.body after refl (past_end (plain_conditions p.specs) m e) k
    asserted_known (Some i) number after e k =
        let within = slice_get_within (plain_conditions p.specs) m i e in
        let read : ReadsIn (length t.globals) p.params i.cond = all_get (ConditionIn t p.params) (plain_conditions p.specs) m i (plain_read t valid f p there) e in (
          known.1,
          subst (λ (r : ℕ). ReadsIn (length t.globals) r i.cond) (sym known.0) read,
          part_keeps 0 (omega (arith, within)) (omega (arith, within)),
        )

    whole_known : (after : Point) → Keeps t n q body after 0 → ActionKnown t n q body AtThis (call_if_any (slice_get t.procs f) id f at cs es AtThis after)
    whole_known after k =
        subst (λ (o : Option TypedProcedure). ActionKnown t n q body AtThis (call_if_any o id f at cs es AtThis after)) (sym there)
        (asserted_known (slice_get (plain_conditions p.specs) m) (id + m) after refl k)

  -- ---- statements

  statement_known : (s : TypedStatement) (b : TypedBlock) (l : Bool) (id place : ℕ) (under : List Todo) (m : ℕ) → IsNested t q body (Then s b) l under → AreNested t q body under →
      IsNested t q body body false [] → StatementStands t.procs body FirstId FirstPlace (record { rest = Then s b; of_loop = l; id = id; at = place } ∷ under) m s →
      ActionKnown t n q body (Here s b l id place under m) (statement_action t.procs body FirstId FirstPlace s b l id place under (Here s b l id place under m))
  statement_known (Assert at e) b l id place under m h u w st =
      (own_reads h.context.scope types.Bool e h.inside.scope (and_parts (is_statement h.context (Assert at e)) (is_block h.context b) h.kept).0, after_keeps (Assert at e) b l id place under h u)
  statement_known (Assume at e) b l id place under m h u w st =
      (own_reads h.context.scope types.Bool e h.inside.scope (and_parts (is_statement h.context (Assume at e)) (is_block h.context b) h.kept).0, after_keeps (Assume at e) b l id place under h u)
  statement_known (Havoc at cs) b l id place under m h u w st =
      let kept = (and_parts (is_statement h.context (Havoc at cs)) (is_block h.context b) h.kept).0 in
      havoc_known (Here (Havoc at cs) b l id place under m) _ cs m (slice_get cs m) (slice_get cs (m + 1)) refl refl
      (own_targets h.context cs h.inside.scope (and_parts (not (is_empty cs)) (are_targets h.context cs) kept).1)
      (λ less. record { nested = (h, u); stands = less; kept = tt }) (after_keeps (Havoc at cs) b l id place under h u)
  statement_known (Assign at cs es) b l id place under m h u w st =
      let k : Context = h.context in
      let kept = (and_parts (is_statement k (Assign at cs es)) (is_block k b) h.kept).0 in
      let both = and_parts (are_targets k cs) (values_agree k.scope cs es) (and_parts (not (is_empty cs)) (are_targets k cs && values_agree k.scope cs es) kept).1 in
      let read = values_read k.scope cs es both.1 in (
        read.0,
        own_targets k cs h.inside.scope both.0,
        subst (λ (r : Scope). AllByRecursion (ReadsIn (length r.globals) (length r.locals)) es) h.inside.scope read.1,
        after_keeps (Assign at cs es) b l id place under h u,
      )
  statement_known (Call at cs f es) b l id place under m h u w st =
      let p = callee_found t n q body at cs f es b l under h in
      whole_known at cs f es b l id place under m h u p.0 p.1 p.2 _ (after_keeps (Call at cs f es) b l id place under h u)
  statement_known (If at g x y) b l id place under m h u w st =
      let k : Context = h.context in
      let kept = (and_parts (is_statement k (If at g x y)) (is_block k b) h.kept).0 in
      let after : Todo = past t.procs (If at g x y) b l id place in
      let both = branches_nested t q body at g x y b l after under h refl in
      let rest : AreNested t q body (after ∷ under) = (rest_nested t q body (If at g x y) b l under h, u) in
      guarded_known (Here (If at g x y) b l id place under m) k.scope g _ _ h.inside.scope
      (and_parts (is_guard k.scope g) (is_block (within k x) x && is_block (within k y) y) kept).0
      (settled_keeps t n q body (record { rest = x; of_loop = false; id = id; at = place + 1 } ∷ after ∷ under) (both.0, rest))
      (settled_keeps t n q body (record { rest = y; of_loop = false; id = id + block_assertions t.procs x; at = place + 1 + block_points t.procs x } ∷ after ∷ under) (both.1, rest))
  statement_known (While at g is x) b l id place under m h u w st =
      let k : Context = h.context in
      let here : Todo = record { rest = Then (While at g is x) b; of_loop = l; id = id; at = place } in
      let kept = (and_parts (is_statement k (While at g is x)) (is_block k b) h.kept).0 in
      let parts = and_parts (is_guard k.scope g) (list_all (is_invariant k.scope) is && is_block (within (looped k) x) x) kept in
      let invariants = (and_parts (list_all (is_invariant k.scope) is) (is_block (within (looped k) x) x) parts.1).0 in
      head_known (Here (While at g is x) b l id place under m) is m (slice_get is m) (id + plain_invariants (take m is)) _ refl
      (conditions_read k.scope is h.inside.scope invariants)
      (λ less. record { nested = (h, u); stands = omega (arith, less); kept = tt })
      (guarded_known (Here (While at g is x) b l id place under m) k.scope g _ _ h.inside.scope parts.0
      (settled_keeps t n q body (record { rest = x; of_loop = true; id = id + plain_invariants is; at = place + length is + 1 } ∷ here ∷ under)
      (loop_nested t q body at g is x b l id place under h, (h, u)))
      (after_keeps (While at g is x) b l id place under h u))
  statement_known (Break at j) b l id place under m h u w st =
      let here : Todo = record { rest = Then (Break at j) b; of_loop = l; id = id; at = place } in
      settled_keeps t n q body (broken t.procs j (here ∷ under)) (broken_nested t q body j (here ∷ under) (h, u))
  statement_known (Goto at ks) b l id place under m h u w st =
      one_known (Here (Goto at ks) b l id place under m) (ways_to t.procs body FirstId FirstPlace ks) (ways_keep t n q body FirstId FirstPlace ks w)
  statement_known (Return at) b l id place under m h u w st = exit_keeps t n q body
  statement_known (Label j) b l id place under m h u w st = absurd st

  block_known : (r : TypedBlock) (l : Bool) (id place : ℕ) (under : List Todo) (m : ℕ) → IsNested t q body r l under → AreNested t q body under →
      IsNested t q body body false [] → BlockStands t.procs body FirstId FirstPlace (record { rest = r; of_loop = l; id = id; at = place } ∷ under) m r →
      ActionKnown t n q body (record { stage = points.Body; todo = record { rest = r; of_loop = l; id = id; at = place } ∷ under; part = m })
      (block_action t.procs body FirstId FirstPlace r l id place under (record { stage = points.Body; todo = record { rest = r; of_loop = l; id = id; at = place } ∷ under; part = m }))
  block_known Empty l id place under m h u w st = absurd st
  block_known (Then s b) l id place under m h u w st = statement_known s b l id place under m h u w st

  body_known : (ds : List Todo) (m : ℕ) → AreNested t q body ds → IsNested t q body body false [] → TodoStands t.procs body FirstId FirstPlace ds m →
      ActionKnown t n q body (record { stage = points.Body; todo = ds; part = m })
      (body_action t.procs body FirstId FirstPlace ds (record { stage = points.Body; todo = ds; part = m }))
  body_known [] m h w st = absurd st
  body_known (d ∷ ds) m h w st = block_known d.rest d.of_loop d.id d.at ds m h.0 h.1 w st

  -- ---- stages

  start_known : (here next : Point) (m : ℕ) (e d : Option TypedExpression) → slice_get (start_conditions t q) m ≡ e → slice_get (start_conditions t q) (m + 1) ≡ d →
      (m + 1 < length (start_conditions t q) → Keeps t n q body (next_part here) 0) → Keeps t n q body next 0 → ActionKnown t n q body here (start_action e d here next)
  start_known here next m None d a b more k = k
  start_known here next m (Some e) None a b more k =
      (all_get (ReadsIn (length t.globals) (length q.locals)) (start_conditions t q) m e (start_read t valid n q found) a, k)
  start_known here next m (Some e) (Some d) a b more k = (
    all_get (ReadsIn (length t.globals) (length q.locals)) (start_conditions t q) m e (start_read t valid n q found) a,
    more (slice_get_within (start_conditions t q) (m + 1) d b),
  )

  -- a condition of the procedure, which sees some of its locals
  some_read : (is : List TypedInvariant) (l m : ℕ) (i : TypedInvariant) → l ≤ length q.locals → AllByRecursion (ConditionIn t l) is → slice_get is m ≡ Some i →
      ReadsIn (length t.globals) (length q.locals) i.cond
  some_read is l m i less r e = widened (length t.globals) l (length q.locals) i.cond less (all_get (ConditionIn t l) is m i r e)

  entry_known : (here : Point) (m : ℕ) (i j : Option TypedInvariant) → slice_get (free_conditions q.specs) m ≡ i → slice_get (free_conditions q.specs) (m + 1) ≡ j →
      AreNested t q body here.todo → (m + 1 < length (free_conditions q.specs) → Keeps t n q body (next_part here) 0) → ActionKnown t n q body here (entry_action i j here)
  entry_known here m None j a b h more = settled_keeps t n q body here.todo h
  entry_known here m (Some i) None a b h more = (
    some_read (free_conditions q.specs) q.params m i (omega (arith, enough t valid n q found)) (free_read t valid n q found) a,
    settled_keeps t n q body here.todo h,
  )
  entry_known here m (Some i) (Some j) a b h more = (
    some_read (free_conditions q.specs) q.params m i (omega (arith, enough t valid n q found)) (free_read t valid n q found) a,
    more (slice_get_within (free_conditions q.specs) (m + 1) j b),
  )

  exit_known : (here : Point) (m : ℕ) (i : Option TypedInvariant) (id : ℕ) → slice_get (ensured_conditions q.specs) m ≡ i →
      (m < length (ensured_conditions q.specs) → Keeps t n q body (next_part here) 0) → ActionKnown t n q body here (exit_action i id here)
  exit_known here m None id a more = tt
  exit_known here m (Some i) id a more =
      checked_known here i.free id i.span i.cond (next_part here)
      (some_read (ensured_conditions q.specs) (q.params + q.results) m i (enough t valid n q found) (ensured_read t valid n q found) a)
      (more (slice_get_within (ensured_conditions q.specs) m i a))

  pub first_keeps : Keeps t n q body (first_point q body (first_assertion t.procs n) (first_place t n)) 0
  first_keeps = entry_keeps t n q body (free_conditions q.specs) (record { rest = body; of_loop = false; id = first_assertion t.procs n; at = first_place t n + length (free_conditions q.specs) }) refl
      (body_nested t valid n q found body has)

  stage_known : (s : Stage) (ds : List Todo) (m : ℕ) → AreNested t q body ds → StageStands t n q body s ds m →
      ActionKnown t n q body (record { stage = s; todo = ds; part = m }) (stage_action t n q body s (record { stage = s; todo = ds; part = m }))
  stage_known points.Start ds m h st =
      start_known (record { stage = points.Start; todo = ds; part = m }) _ m (slice_get (start_conditions t q) m) (slice_get (start_conditions t q) (m + 1)) refl refl
      (λ less. record { nested = h; stands = (st.0, less); kept = tt }) first_keeps
  stage_known points.Entry ds m h st =
      entry_known (record { stage = points.Entry; todo = ds; part = m }) m (slice_get (free_conditions q.specs) m) (slice_get (free_conditions q.specs) (m + 1)) refl refl h (λ less. record { nested = h; stands = less; kept = tt })
  stage_known points.Body ds m h st = body_known ds m h (body_nested t valid n q found body has) st
  stage_known points.Exit ds m h st =
      exit_known (record { stage = points.Exit; todo = ds; part = m }) m (slice_get (ensured_conditions q.specs) m) _ refl (λ less. record { nested = h; stands = omega (arith, less); kept = tt })

  -- the action at a point of the procedure
  pub action_known : (here : Point) (k : ℕ) → Keeps t n q body here k → ActionKnown t n q body here (action_at t n here)
  action_known here k h =
      subst (λ (o : Option TypedProcedure). ActionKnown t n q body here (procedure_action t n o here)) (sym found)
      (subst (λ (o : Option TypedBlock). ActionKnown t n q body here (body_or_leave t n q o here)) (sym has)
      (stage_known here.stage here.todo here.part h.nested h.stands))

  -- the point at which a call of the procedure begins
  pub call_keeps : Keeps t n q body (point_of_call t n (slice_get t.procs n)) 0
  call_keeps =
      subst (λ (o : Option TypedProcedure). Keeps t n q body (point_of_call t n o) 0) (sym found)
      (subst (λ (o : Option TypedBlock). Keeps t n q body (point_of_procedure t n q o) 0) (sym has) first_keeps)

  -- ---- the targets of the call at which a frame stands

  block_targets : (r : TypedBlock) (l : Bool) (id place : ℕ) (ds : List Todo) (f : ℕ) (p : TypedProcedure) → IsNested t q body r l ds → slice_get t.procs f ≡ Some p →
      AtCall f (record { rest = r; of_loop = l; id = id; at = place } ∷ ds) →
      (length (targets_at (record { rest = r; of_loop = l; id = id; at = place } ∷ ds)) ≡ p.results)
      × AllByRecursion (ColumnIn (length t.globals) (length q.locals)) (targets_at (record { rest = r; of_loop = l; id = id; at = place } ∷ ds))
  block_targets Empty l id place ds f p h e c = absurd c
  block_targets (Then (Assert at x) b) l id place ds f p h e c = absurd c
  block_targets (Then (Assume at x) b) l id place ds f p h e c = absurd c
  block_targets (Then (Havoc at cs) b) l id place ds f p h e c = absurd c
  block_targets (Then (Assign at cs es) b) l id place ds f p h e c = absurd c
  block_targets (Then (Call at cs g es) b) l id place ds f p h e c =
      let r = callee_found t n q body at cs g es b l ds h in
      let same : r.0 ≡ p = same_Some r.0 p (sym r.1 ∙ ap (slice_get t.procs) c ∙ e) in
      let count : length cs ≡ r.0.results = (call_known h.context cs g es r.0 h.inside.scope r.1 r.2).2 in (
        count ∙ ap (λ (x : TypedProcedure). x.results) same,
        own_targets h.context cs h.inside.scope
            (and_parts (are_targets h.context cs) (meets (is_call h.context cs es) (slice_get h.context.procs g))
            (and_parts (is_statement h.context (Call at cs g es)) (is_block h.context b) h.kept).0).0,
      )
  block_targets (Then (If at g x y) b) l id place ds f p h e c = absurd c
  block_targets (Then (While at g is x) b) l id place ds f p h e c = absurd c
  block_targets (Then (Break at j) b) l id place ds f p h e c = absurd c
  block_targets (Then (Goto at ks) b) l id place ds f p h e c = absurd c
  block_targets (Then (Return at) b) l id place ds f p h e c = absurd c
  block_targets (Then (Label j) b) l id place ds f p h e c = absurd c

  pub targets_known : (ds : List Todo) (f : ℕ) (p : TypedProcedure) → AreNested t q body ds → slice_get t.procs f ≡ Some p → AtCall f ds →
      (length (targets_at ds) ≡ p.results) × AllByRecursion (ColumnIn (length t.globals) (length q.locals)) (targets_at ds)
  targets_known [] f p h e c = absurd c
  targets_known (d ∷ ds) f p h e c = block_targets d.rest d.of_loop d.id d.at ds f p h.0 e c
